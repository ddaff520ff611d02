use Rattle.std.proofs.Common.{◌+◌, ◌/◌, refl, sym, ◌∙◌}
use Rattle.seats.proofs.Rounds.MakingRounds.{loads_as, loads_both}
use Rattle.example_jacobi.proofs.PlateStencil.next.Goals as goal

pub returns : goal.returns
returns g c =
    let inside = sym c.is_border.ensures ∙ c.if-is_border.false in
    let row = loads_both ◌+◌ (loads_both ◌+◌ c.in_ok-load.ensures.ok c.in_ok-load-2.ensures.ok) c.in_ok-load-3.ensures.ok in
    loads_as _ _ (loads_both (λ sum right. (sum + right) / 4) row c.in_ok-load-4.ensures.ok) (λ memory. rw inside refl) cc
