use Rattle.std.proofs.Common.{subst, sym}
use Rattle.std.specs.Prelude.{Result, Ok, Err, OnOk}
use Rattle.journal.specs.DidEvent.{did}
use Rattle.judge.specs.Locksets.Held.{AreHeldLocks}
use Rattle.judge.proofs.locksets.SetsHeld.{sets_held_acquired, sets_held_other, sets_held_released}
use Rattle.judge.proofs.locksets.held_locks.HeldLocks.note.Goals as goal

-- what two facts of success give, success gives
both : {E P Q R : Type 0} (r : Result (Unit {0}) E) → (P → Q → R) → OnOk r P → OnOk r Q → OnOk r R
both (Ok x) f p q = f p q
both (Err e) f p q = tt

pub returns-in-Acquire : goal.returns-in-Acquire
returns-in-Acquire c = both c.add.result
    (λ same others j p old.
    subst (λ k. AreHeldLocks (did j p k) p c.add.new.self) (sym c.in-Acquire.is)
    (sets_held_acquired j p c.in-Acquire.lock c.args.self.now c.add.new.self same others old))
    c.add.ensures.same c.add.ensures.others

pub returns-in-Release : goal.returns-in-Release
returns-in-Release c = λ j p old.
    subst (λ k. AreHeldLocks (did j p k) p c.remove.new.self) (sym c.in-Release.is)
    (sets_held_released j p c.in-Release.lock c.args.self.now c.remove.new.self c.remove.ensures.same c.remove.ensures.others old)

pub returns-in_default : goal.returns-in_default
returns-in_default c = λ j p.
    sets_held_other j p c.args.kind c.args.self.now c.in_default.not-Acquire c.in_default.not-Release
