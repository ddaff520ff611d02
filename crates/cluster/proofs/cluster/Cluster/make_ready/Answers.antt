use Rattle.std.proofs.Common.{subst, sym, arith}
use Rattle.std.proofs.lemmas.Result.{err_from_is_err_and}
use Rattle.std.proofs.lemmas.Grind.{common_steps}
use Rattle.cluster.specs.ReadyAccess.{IsAccessUnready, IsReadyAccessRefused}
use Rattle.cluster.proofs.ReadyAccess.{ready_access_after_fetch, ready_access_fetch_refused, ready_access_full}
use Rattle.cluster.proofs.cluster.Cluster.make_ready.Goals as goal

pub returns-in_err-bring-in-Invalid : goal.returns-in_err-bring-in-Invalid
returns-in_err-bring-in-Invalid g c = λ a unready.
    let m = c.args.processor.now in
    let n = c.bring.new.processor in
    let told = err_from_is_err_and c.from_residual.result c.from_residual.ensures.1 in
    rw told.1 (subst (IsReadyAccessRefused m a n) (sym told.2)
    (ready_access_fetch_refused m n c.in-Invalid.page a c.in_err-bring-in-Invalid.was c.bring.ensures.done
    (subst (IsAccessUnready m a) c.in-Invalid.is unready)))

pub returns-in_ok-bring-in-Invalid : goal.returns-in_ok-bring-in-Invalid
returns-in_ok-bring-in-Invalid g c = λ a unready.
    let m = c.args.processor.now in
    let room = c.make_room in
    ready_access_after_fetch m c.bring.new.processor room.new.processor c.in-Invalid.page a room.result c.in_ok-bring-in-Invalid.was
    c.bring.ensures.done room.ensures.room (subst (IsAccessUnready m a) c.in-Invalid.is unready)

pub returns-in-BlockFull : goal.returns-in-BlockFull
returns-in-BlockFull g c = λ a unready.
    let m = c.args.processor.now in
    let room = c.make_room-in-BlockFull in
    ready_access_full m room.new.processor a room.result room.ensures.room (subst (IsAccessUnready m a) c.in-BlockFull.is unready)

pub returns-in_default : goal.returns-in_default
returns-in_default g c = grind (arith, common_steps)
