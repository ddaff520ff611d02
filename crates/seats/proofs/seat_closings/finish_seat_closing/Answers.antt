use Rattle.std.proofs.Common.{◌≡◌, None, Some, refl, sym, ◌∙◌}
use Rattle.seats.proofs.SeatAccess.{seat_access_inside_same}
use Rattle.seats.proofs.SeatClosings.{seat_closing_taken_none, seat_closing_waits_still, seat_closing_waits_for, seat_closing_waits_not}
use Rattle.seats.proofs.seat_closings.finish_seat_closing.Goals as goal

pub returns-then-waiting-clause-err : goal.returns-then-waiting-clause-err
returns-then-waiting-clause-err g c =
    let m = c.args.processor.now in
    let some = seat_closing_waits_for m (sym c.waiting.ensures ∙ c.if-waiting.true) in
    seat_closing_waits_still m c.take.new.processor c.take.result some.0 some.1 c.take.ensures.err

pub returns-else-waiting-clause-ok : goal.returns-else-waiting-clause-ok
returns-else-waiting-clause-ok g c =
    let m = c.args.processor.now in
    seat_closing_taken_none m (seat_closing_waits_not m (sym c.waiting.ensures ∙ c.if-waiting.false)) (seat_access_inside_same m m refl c.requires.covers)

pub take-requires-clause-waits : goal.take-requires-clause-waits
take-requires-clause-waits g c = λ none.
    let some = seat_closing_waits_for c.args.processor.now (sym c.waiting.ensures ∙ c.if-waiting.true) in
    let two : None ≡ Some some.0 = sym none ∙ some.1 in
    cc
