use Rattle.std.proofs.Common.{◌∙◌, refl, arith}
use Rattle.seats.proofs.Rounds.RoundsByPrograms.{stencil_run}
use Rattle.example_jacobi.specs.Plates.{plate}
use Rattle.example_jacobi.proofs.run.Goals as goal

pub returns : goal.returns
returns g c =
    c.truncate.ensures.items ∙ stencil_run plate 10 c.in_ok-ran.ensures.ran (omega arith, refl, omega arith) (λ p ks y did. did)
