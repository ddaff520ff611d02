use Rattle.seats.proofs.SeatClosings.{seat_closing_undone_wait}
use Rattle.seats.proofs.SeatFaults.{seat_fault_waits}
use Rattle.seats.proofs.seat_closings.rest.Goals as goal

pub returns-clause-undone : goal.returns-clause-undone
returns-clause-undone g c = seat_closing_undone_wait c.args.processor.now c.wait.new.processor c.wait.result c.wait.ensures

pub returns-clause-fault : goal.returns-clause-fault
returns-clause-fault g c = λ waits.
    seat_fault_waits c.args.processor.now c.wait.new.processor c.wait.result c.seat_closing_told.result waits c.wait.ensures
    c.seat_closing_told.ensures
