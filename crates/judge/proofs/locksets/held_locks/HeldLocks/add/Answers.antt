use Rattle.std.proofs.Common.{sym, subst, inl, inr}
use Rattle.base.specs.InOrderOnce.{Has}
use Rattle.judge.proofs.locksets.SetsHeld.{sets_held_inserted}
use Rattle.judge.proofs.locksets.held_locks.HeldLocks.add.Goals as goal

pub returns-clause-others : goal.returns-clause-others
returns-clause-others c = λ l isnt.
    let set = sets_held_inserted c.args.self.now.locks.items c.partition_point-place.result c.args.lock l in (
      λ has. elim (set.0 (subst (λ xs. Has xs l) c.in_ok-insert.ensures.items has)) [ inl is ↦ absurd (isnt (sym is)) | inr was ↦ was ],
      λ was. subst (λ xs. Has xs l) (sym c.in_ok-insert.ensures.items) (set.1 (inr was)),
    )
