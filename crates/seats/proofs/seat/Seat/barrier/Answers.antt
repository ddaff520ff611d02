use Rattle.std.proofs.Common.{sym, ap, subst, ◌∙◌}
use Rattle.seats.specs.KeptLayout.{HasKeptSeatLayout}
use Rattle.seats.specs.Tables.{table_next}
use Rattle.journal.specs.declared.event.Kind.TheVariants.{Arrive}
use Rattle.seats.proofs.KeptSeats.{kept_seat_undeparted, kept_seat_meeting}
use Rattle.seats.proofs.StillSitting.{still_sitting_after_closing}
use Rattle.seats.proofs.seat.Seat.barrier.Goals as goal

pub invariant_of-self : goal.invariant_of-self
invariant_of-self g c =
    let was = c.self.invariant in (
      still_sitting_after_closing _ c.pass.new.processor _ Arrive c.pass.result was.0 c.pass.ensures.ok c.pass.ensures.err,
      was.1,
      kept_seat_undeparted g.S.Sitting.at _ c.pass.new.processor was.2 c.in_err-pass.ensures.err,
    )

pub invariant_of-self-2 : goal.invariant_of-self-2
invariant_of-self-2 g c =
    let was = c.self.invariant in (
      still_sitting_after_closing _ c.pass.new.processor _ Arrive c.pass.result was.0 c.pass.ensures.ok c.pass.ensures.err,
      was.1,
      subst (λ t. HasKeptSeatLayout g.S.Sitting.at t c.pass.new.processor)
          (ap (λ l. table_next l c.self.inside.table) (sym was.1) ∙ sym c.next-self-inside.ensures)
          (kept_seat_meeting g.S.Sitting.at _ c.pass.new.processor was.2 c.in_ok-pass.ensures.ok),
    )
