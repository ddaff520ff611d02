use Rattle.std.proofs.Common.{ap, refl, sym, subst, ◌∙◌}
use Rattle.std.proofs.lemmas.Result.{err_from_is_err_and}
use Rattle.seats.specs.SeatCallFaults.{IsSeatCallEnteringFault, IsSeatCallWaitFault}
use Rattle.seats.proofs.SeatAccess.{seat_access_inside_same}
use Rattle.seats.proofs.SeatClosings.{seat_closing_taken, seat_closing_taken_after, seat_closing_undone_by, seat_closing_undone_same, seat_closing_undone_take, seat_closing_undone_then}
use Rattle.seats.proofs.SeatFaults.{seat_fault_awaits, seat_fault_take, seat_fault_told}
use Rattle.seats.specs.declared.fault.SeatFault.TheVariants.{Refused}
use Rattle.seats.proofs.seat_closings.take.Goals as goal

pub loop-init : goal.loop-init
loop-init g c =
    let m = c.args.processor.now in
    record { own = c.requires.own; undone = seat_closing_undone_same m m refl (seat_access_inside_same m m refl c.requires.covers) }

pub loop-preserved : goal.loop-preserved
loop-preserved g c =
    let m = c.args.processor.now in
    let mid = c.take.new.processor in
    let undone = seat_closing_undone_then m c.loop.processor mid c.loop.invariant.undone
    (seat_closing_undone_take c.loop.processor mid c.take.result c.in-Err.is c.take.ensures) in
    let after = seat_closing_undone_then m mid c.rest.new.processor undone c.rest.ensures.undone in
    record { own = after.inside.besides.stays.same.lock ∙ c.requires.own; undone = after }

pub returns-in-Ok-clause-ok : goal.returns-in-Ok-clause-ok
returns-in-Ok-clause-ok g c =
    seat_closing_taken_after c.args.processor.now c.loop.processor c.take.new.processor c.loop.invariant.undone
    (seat_closing_taken c.loop.processor c.take.new.processor c.take.result c.in-Ok.is c.take.ensures)

pub returns-in_err-came_too_early-in-Err-clause-err : goal.returns-in_err-came_too_early-in-Err-clause-err
returns-in_err-came_too_early-in-Err-clause-err g c =
    let m = c.args.processor.now in
    let n = c.take.new.processor in
    seat_closing_undone_by m n c.from_residual.result (seat_closing_undone_then m c.loop.processor n c.loop.invariant.undone
    (seat_closing_undone_take c.loop.processor n c.take.result c.in-Err.is c.take.ensures))

pub returns-in_err-came_too_early-in-Err-clause-fault : goal.returns-in_err-came_too_early-in-Err-clause-fault
returns-in_err-came_too_early-in-Err-clause-fault g c =
    let n = c.take.new.processor in
    let same = c.in_err-came_too_early-in-Err.ensures in
    let told = err_from_is_err_and c.from_residual.result c.from_residual.ensures.1 in
    let waits = seat_fault_awaits c.args.processor.now c.loop.processor c.requires.waits c.loop.invariant.undone in
    let why : IsSeatCallEnteringFault 1 n c.in-Err.refused =
    seat_fault_take c.loop.processor n c.take.result c.in-Err.is waits (λ early. same.1 (same.0 ∙ early)) c.take.ensures in
    seat_fault_told (IsSeatCallWaitFault n) c.from_residual.result told.0 told.1
    (subst (IsSeatCallWaitFault n) (sym (told.2 ∙ ap Refused same.0)) why)

pub returns-in_err-rest-in-Err-clause-err : goal.returns-in_err-rest-in-Err-clause-err
returns-in_err-rest-in-Err-clause-err g c =
    let m = c.args.processor.now in
    let mid = c.take.new.processor in
    let undone = seat_closing_undone_then m c.loop.processor mid c.loop.invariant.undone
    (seat_closing_undone_take c.loop.processor mid c.take.result c.in-Err.is c.take.ensures) in
    seat_closing_undone_by m c.rest.new.processor c.from_residual-in_err-rest-in-Err.result
    (seat_closing_undone_then m mid c.rest.new.processor undone c.rest.ensures.undone)

pub returns-in_err-rest-in-Err-clause-fault : goal.returns-in_err-rest-in-Err-clause-fault
returns-in_err-rest-in-Err-clause-fault g c =
    let m = c.args.processor.now in
    let mid = c.take.new.processor in
    let undone = seat_closing_undone_then m c.loop.processor mid c.loop.invariant.undone
    (seat_closing_undone_take c.loop.processor mid c.take.result c.in-Err.is c.take.ensures) in
    let told = err_from_is_err_and c.from_residual-in_err-rest-in-Err.result c.from_residual-in_err-rest-in-Err.ensures.1 in
    let why = c.in_err-rest-in-Err.ensures.fault (seat_fault_awaits m mid c.requires.waits undone) in
    seat_fault_told (IsSeatCallWaitFault c.rest.new.processor) c.from_residual-in_err-rest-in-Err.result told.0 told.1
    (subst (IsSeatCallWaitFault c.rest.new.processor) (sym told.2) why)
