use Rattle.std.proofs.Common.{◌≡◌, true, false, sym, subst, ◌∙◌}
use Rattle.cluster.specs.Copies.Local.{Local}
use Rattle.cluster.specs.Covers.{HasCoverage}
use Rattle.seats.specs.KeptLayout.{kept_layout_lets_access}
use Rattle.cluster.specs.declared.cluster.accessing.WordAccess.TheVariants.{Load}
use Rattle.seats.proofs.KeptSeats.{kept_seat_barred, kept_seat_access}
use Rattle.seats.proofs.StillSitting.{still_sitting_after_access}
use Rattle.seats.proofs.seat.Seat.load.Goals as goal

pub returns-then-not-may_access-clause-err : goal.returns-then-not-may_access-clause-err
returns-then-not-may_access-clause-err g c =
    kept_seat_barred c.args.self.now _ (subst HasCoverage c.self.view_is c.self.invariant.0.covers)

pub invariant_of-self : goal.invariant_of-self
invariant_of-self g c =
    let was = c.self.invariant in
    let P : Local → Type 0 = λ m. kept_layout_lets_access g.S.Sitting.at m c.args.address false ≡ true in
    let may = subst P (sym c.self.view_is) (sym c.may_access.ensures ∙ c.if-not-may_access.false) in (
      still_sitting_after_access _ c.access_word.new.processor _ c.args.address Load c.access_word.result was.0
          c.access_word.ensures.done,
      was.1,
      kept_seat_access g.S.Sitting.at _ c.access_word.new.processor _ c.args.address Load c.access_word.result was.2 may
          c.access_word.ensures.done,
    )
