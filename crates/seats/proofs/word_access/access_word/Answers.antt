use Rattle.cluster.proofs.ReadyAccess.{ready_access_at_once, ready_access_fits}
use Rattle.seats.proofs.SeatAccess.{seat_access_done}
use Rattle.seats.proofs.SeatFaults.{seat_fault_access}
use Rattle.seats.proofs.word_access.access_word.Goals as goal

pub returns-clause-done : goal.returns-clause-done
returns-clause-done g c =
    seat_access_done c.args.processor.now c.access.new.processor c.args.address c.args.access c.access.result c.requires.covers
    c.access.ensures

pub returns-clause-outside : goal.returns-clause-outside
returns-clause-outside g c = λ e due.
    ready_access_at_once c.args.processor.now c.access.new.processor c.args.address c.args.access c.access.result e due c.access.ensures

pub returns-clause-fits : goal.returns-clause-fits
returns-clause-fits g c = λ free.
    ready_access_fits c.args.processor.now c.access.new.processor c.args.address c.args.access c.access.result free c.access.ensures

pub returns-clause-fault : goal.returns-clause-fault
returns-clause-fault g c =
    seat_fault_access c.args.processor.now c.access.new.processor c.args.address c.args.access c.access.result c.access.ensures
