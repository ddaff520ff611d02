use Rattle.journal.specs.declared.event.Kind.TheVariants.{Set}
use Rattle.seats.proofs.KeptSeats.{kept_seat_set}
use Rattle.seats.proofs.StillSitting.{still_sitting_after_closing}
use Rattle.seats.proofs.seat.Seat.set.Goals as goal

pub invariant_of-self : goal.invariant_of-self
invariant_of-self g c =
    let was = c.self.invariant in (
      still_sitting_after_closing _ c.pass.new.processor _ (Set c.args.flag) c.pass.result was.0 c.pass.ensures.ok c.pass.ensures.err,
      was.1,
      kept_seat_set g.S.Sitting.at _ c.pass.new.processor c.args.flag c.pass.result was.2 c.pass.ensures.ok
          c.pass.ensures.err,
    )
