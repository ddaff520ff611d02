use Rattle.std.proofs.Common.{inl, refl}
use Rattle.cluster.specs.ProcessorRefusals.{processor_refusal_of_closing}
use Rattle.journal.specs.ClosingKinds.{closing_kind}
use Rattle.seats.proofs.SeatFaults.{seat_fault_left_by, seat_fault_undone}
use Rattle.seats.proofs.SeatClosings.{seat_closing_begun_by, seat_closing_done_by, seat_closing_left_by, seat_closing_not_at_once, seat_closing_refused_at_once, seat_closing_undone}
use Rattle.seats.proofs.seat_closings.pass.Goals as goal

pub returns-in-Ok-clause-ok : goal.returns-in-Ok-clause-ok
returns-in-Ok-clause-ok g c =
    let m = c.args.processor.now in
    let k = closing_kind c.args.closing in
    seat_closing_done_by (processor_refusal_of_closing m k) k m c.close.new.processor c.close.result c.in-Ok.is c.close.ensures
    c.finish_seat_closing.new.processor c.finish_seat_closing.result c.finish_seat_closing.ensures.ok

pub returns-in-Ok-clause-err : goal.returns-in-Ok-clause-err
returns-in-Ok-clause-err g c =
    let m = c.args.processor.now in
    let k = closing_kind c.args.closing in
    seat_closing_left_by (processor_refusal_of_closing m k) k m c.close.new.processor c.close.result c.in-Ok.is c.close.ensures
    c.finish_seat_closing.new.processor c.finish_seat_closing.result c.finish_seat_closing.ensures.err

pub returns-in-Ok-clause-outside : goal.returns-in-Ok-clause-outside
returns-in-Ok-clause-outside g c = λ e due.
    let m = c.args.processor.now in
    let k = closing_kind c.args.closing in
    seat_closing_not_at_once (processor_refusal_of_closing m k) k m c.close.new.processor c.close.result c.in-Ok.is c.close.ensures e due

pub returns-in-Err-clause-err : goal.returns-in-Err-clause-err
returns-in-Err-clause-err g c =
    let m = c.args.processor.now in
    let k = closing_kind c.args.closing in
    inl (seat_closing_undone (processor_refusal_of_closing m k) k m c.close.new.processor c.close.result c.in-Err.is c.close.ensures)

pub returns-in-Err-clause-outside : goal.returns-in-Err-clause-outside
returns-in-Err-clause-outside g c = λ e due.
    let m = c.args.processor.now in
    let k = closing_kind c.args.closing in
    seat_closing_refused_at_once (processor_refusal_of_closing m k) k m c.close.new.processor c.close.result c.in-Err.is c.close.ensures e _ refl due

pub finish_seat_closing-requires-clause-covers : goal.finish_seat_closing-requires-clause-covers
finish_seat_closing-requires-clause-covers g c = c.close.ensures.covers

pub returns-in-Ok-clause-fault : goal.returns-in-Ok-clause-fault
returns-in-Ok-clause-fault g c =
    let m = c.args.processor.now in
    let n = c.finish_seat_closing.new.processor in
    let k = closing_kind c.args.closing in
    let q = c.finish_seat_closing.result in
    seat_fault_left_by m n k q
    (seat_closing_begun_by (processor_refusal_of_closing m k) k m c.close.new.processor c.close.result c.in-Ok.is c.close.ensures
    n q c.finish_seat_closing.ensures.err)
    c.finish_seat_closing.ensures.fault

pub returns-in-Err-clause-fault : goal.returns-in-Err-clause-fault
returns-in-Err-clause-fault g c =
    let m = c.args.processor.now in
    let k = closing_kind c.args.closing in
    let test = processor_refusal_of_closing m k in
    inl (
      seat_closing_undone test k m c.close.new.processor c.close.result c.in-Err.is c.close.ensures,
      seat_fault_undone test k m c.close.new.processor c.close.result c.in-Err.is c.close.ensures,
    )
