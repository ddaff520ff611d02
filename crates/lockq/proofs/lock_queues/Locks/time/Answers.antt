use Rattle.std.proofs.Common.{length, refl, ap, ◌∙◌, arith}
use Rattle.std.proofs.lemmas.Option.{slice_get_read}
use Rattle.lockq.specs.LockQueues.{LockQueue, Locks}
use Rattle.lockq.proofs.lock_queues.Locks.time.Goals as goal

pub returns-clause-long : goal.returns-clause-long
returns-clause-long c =
    let items = c.self.inside.locks.items in
    ap (λ (s : LockQueue). length s.time) c.lock.view_is
    ∙ c.self.invariant c.args.lock c.index-lock.result.now (slice_get_read items (length items) c.args.lock
    c.index-lock.result.now refl (let e = ap (λ (s : Locks). length s.locks) c.self.view_is in omega arith)
    c.index-lock.ensures)
    ∙ ap (λ (s : Locks). s.processors) c.self.view_is
