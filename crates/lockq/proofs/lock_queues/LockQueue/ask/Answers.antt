use Rattle.std.proofs.Common.{◌<◌, ◌≢◌, None, length, is_some, ap, sym, ◌∙◌, subst, arith}
use Rattle.std.proofs.lemmas.Bool.{false≢true}
use Rattle.base.specs.InOrderOnce.{Has}
use Rattle.lockq.specs.LockQueues.{LockQueue, lock_queue_line}
use Rattle.lockq.proofs.OrderlyQueues.{orderly_queue_has_room, orderly_queue_push}
use Rattle.lockq.proofs.lock_queues.LockQueue.ask.Goals as goal

pub push_back_reserved-requires : goal.push_back_reserved-requires
push_back_reserved-requires c =
    let i = c.self.inside in
    let k : LockQueue = record { holder = i.holder; queue = i.queue.items; time = i.time } in
    let Apart : LockQueue → Type 0 = λ s. ¬ Has (lock_queue_line s) c.args.processor in
    let apart = subst Apart (sym c.self.view_is) c.requires.apart in
    let Fits : LockQueue → Type 0 = λ s. c.args.processor < length s.time in
    let fits = subst Fits (sym c.self.view_is) c.requires.processor in
    let spare = orderly_queue_has_room (length i.time) k c.args.processor c.self.invariant.0 apart fits in
    omega (arith, c.self.invariant.1)

pub invariant_of-self-2 : goal.invariant_of-self-2
invariant_of-self-2 c =
    let i = c.self.inside in
    let k : LockQueue = record { holder = i.holder; queue = i.queue.items; time = i.time } in
    let Apart : LockQueue → Type 0 = λ s. ¬ Has (lock_queue_line s) c.args.processor in
    let apart = subst Apart (sym c.self.view_is) c.requires.apart in
    let Fits : LockQueue → Type 0 = λ s. c.args.processor < length s.time in
    let fits = subst Fits (sym c.self.view_is) c.requires.processor in
    let held : k.holder ≢ None = λ e. false≢true (ap is_some (sym e) ∙ c.if-is_none.ensures) in
    rw c.push_back_reserved.ensures.items
    (orderly_queue_push (length i.time) k c.args.processor c.self.invariant.0 held apart fits, omega arith)

pub returns-clause-due : goal.returns-clause-due
returns-clause-due c = (
  λ due. absurd (false≢true due),
  λ none. absurd
      (false≢true (ap is_some (sym (ap (λ (k : LockQueue). k.holder) c.self.view_is ∙ none)) ∙ c.if-is_none.ensures)),
)

pub returns-clause-orderly : goal.returns-clause-orderly
returns-clause-orderly c = (invariant_of-self-2 c).0
