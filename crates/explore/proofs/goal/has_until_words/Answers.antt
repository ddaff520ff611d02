use Rattle.std.proofs.Common.{sym, subst}
use Rattle.explore.specs.EndingWords.{HasEndingWords}
use Rattle.explore.proofs.goal.has_until_words.Goals as goal

pub returns-then-is_whole : goal.returns-then-is_whole
returns-then-is_whole c = λ s g lawful knows.
    let words = c.args.words.now in
    let whole = (c.is_whole.ensures s g lawful knows).0 c.if-is_whole.true in (
      λ has. record {
        whole = record { beginning = knows.beginning; follows = whole };
        ends = subst (λ memory. HasEndingWords memory words) knows.memory (c.has_words.ensures.0 has);
      },
      λ run. c.has_words.ensures.1 (subst (λ memory. HasEndingWords memory words) (sym knows.memory) run.ends),
    )
