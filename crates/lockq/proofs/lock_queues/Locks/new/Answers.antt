use Rattle.std.proofs.Common.{List, length, slice_get, ap, sym, ◌∙◌}
use Rattle.std.proofs.lemmas.List.{length-replicate}
use Rattle.base.proofs.SliceSets.{slice_get-replicate_found}
use Rattle.lockq.specs.LockQueues.{LockQueue, lock_queue_unheld}
use Rattle.lockq.proofs.lock_queues.Locks.new.Goals as goal

pub invariant_of-result : goal.invariant_of-result
invariant_of-result c l k at =
    let n = c.args.processors in
    let same =
    slice_get-replicate_found c.loop.counter (lock_queue_unheld n) k l
    (ap (λ (ks : List LockQueue). slice_get ks l) (sym c.loop.invariant) ∙ at) in
    ap (λ (s : LockQueue). length s.time) (sym same) ∙ length-replicate n 0
