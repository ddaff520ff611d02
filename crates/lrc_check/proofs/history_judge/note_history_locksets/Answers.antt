use Rattle.std.proofs.Common.{subst, ◌∙◌}
use Rattle.std.specs.Prelude.{Option, Result, Ok, Err, OnOk}
use Rattle.judge.specs.declared.locksets.lockset_finder.LocksetFinder.{LocksetFinder}
use Rattle.lrc_check.specs.HistoryJudge.{HasHistoryLocksets}
use Rattle.lrc_check.proofs.history_judge.note_history_locksets.Goals as goal

-- what success gives gives more
given : {E P Q : Type 0} (r : Result (Unit {0}) E) → (P → Q) → OnOk r P → OnOk r Q
given (Ok x) f p = f p
given (Err e) f p = tt

pub returns-in-Some : goal.returns-in-Some
returns-in-Some c = given c.note.result
    (λ told asked before s j next raced has.
    (let was = subst (λ (o : Option LocksetFinder). HasHistoryLocksets asked before s j o) c.in-Some.is has in
    record {
      told = told j was.told;
      processors = c.note.ensures.processors ∙ was.processors;
      addresses = c.note.ensures.addresses ∙ was.addresses;
    }))
    c.note.ensures.tells
