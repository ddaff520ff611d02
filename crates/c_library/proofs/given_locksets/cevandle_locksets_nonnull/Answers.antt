use Rattle.std.proofs.Common.{◌≡◌, ◌∙◌, List, length, ap, subst}
use Rattle.judge.specs.declared.locksets.lockset_finder.Unprotected.{Unprotected}
use Rattle.c_library.specs.ToldWords.{AreToldWordsWritten}
use Rattle.c_library.proofs.given_locksets.cevandle_locksets_nonnull.Goals as goal

pub returns-in-Ok-clause-told : goal.returns-in-Ok-clause-told
returns-in-Ok-clause-told c = λ _. record {
  found = (c.in-Ok.found, c.in-Ok.unprotected);
  is = c.in-Ok.ensures.found;
  verdict = c.told_verdict.ensures;
  count = c.len.ensures ∙ c.in-Ok.unprotected.ok.0;
  written = subst (λ (xs : List Unprotected). AreToldWordsWritten xs c.args.words.now c.write_told_words.new.room) c.deref.ensures.value
      c.write_told_words.ensures;
}
