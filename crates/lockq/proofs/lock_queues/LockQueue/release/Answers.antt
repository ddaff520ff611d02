use Rattle.std.proofs.Common.{ℕ, ◌≡◌, None, [], length, refl, ap, sym, ◌∙◌, subst, arith}
use Rattle.std.proofs.lemmas.Option.{MatchOption-at_none}
use Rattle.std.proofs.lemmas.List.{nil_from_length}
use Rattle.lockq.specs.LockQueues.{LockQueue, IsOrderlyLockQueue}
use Rattle.lockq.proofs.OrderlyQueues.{orderly_queue_passed}
use Rattle.lockq.proofs.lock_queues.LockQueue.release.Goals as goal

pub invariant_of-self : goal.invariant_of-self
invariant_of-self c =
    let i = c.self.inside in
    let k : LockQueue = record { holder = i.holder; queue = i.queue.items; time = i.time } in
    let popped = c.pop_front-self-inside in
    let long : length c.args.time ≡ length i.time =
    c.requires.long ∙ ap (λ (s : LockQueue). length s.time) (sym c.self.view_is) in
    let Orderly : ℕ → Type 0 = λ n. IsOrderlyLockQueue n k in
    let orderly = subst Orderly (sym long) c.self.invariant.0 in
    let left = popped.new.self in
    let none : popped.result ≡ None → left.items ≡ [] =
    λ e. nil_from_length left.items (let both = MatchOption-at_none _ _ e popped.ensures.cases in omega arith) in (
      orderly_queue_passed (length c.args.time) k popped.result left.items c.args.time orderly popped.ensures.items none
          refl,
      omega (arith, c.self.invariant.1),
    )

pub returns-clause-orderly : goal.returns-clause-orderly
returns-clause-orderly c = (invariant_of-self c).0
