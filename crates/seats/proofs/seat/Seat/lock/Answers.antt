use Rattle.std.proofs.Common.{ap}
use Rattle.cluster.specs.ProcessorRefusals.{processor_refusal_or_spent}
use Rattle.journal.specs.declared.event.Kind.TheVariants.{Ask}
use Rattle.seats.proofs.KeptSeats.{kept_seat_lock}
use Rattle.seats.proofs.StillSitting.{still_sitting_after_closing}
use Rattle.seats.proofs.seat.Seat.lock.Goals as goal

pub invariant_of-self : goal.invariant_of-self
invariant_of-self g c =
    let was = c.self.invariant in (
      still_sitting_after_closing _ c.pass.new.processor _ (Ask c.args.lock) c.pass.result was.0 c.pass.ensures.ok c.pass.ensures.err,
      was.1,
      kept_seat_lock g.S.Sitting.at _ c.pass.new.processor c.args.lock c.pass.result was.2 (λ e due. (c.pass.ensures.outside e (ap (λ o. processor_refusal_or_spent o c.self.inside.processor) due)).0) c.pass.ensures.ok
          c.pass.ensures.err,
    )
