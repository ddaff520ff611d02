use Rattle.std.proofs.Common.{subst}
use Rattle.explore.specs.EndingWords.{HasEndingWords}
use Rattle.explore.proofs.search.whole_run.RunSoFar.ends_with.Goals as goal

pub returns-then-is_whole : goal.returns-then-is_whole
returns-then-is_whole c = λ yes s g lawful through. record {
  whole = record { beginning = through.knows.beginning; follows = (c.is_whole.ensures s g lawful through.knows).0 c.if-is_whole.true };
  ends = subst (λ memory. HasEndingWords memory c.args.words.now) through.knows.memory (c.has_words.ensures.0 yes);
}
