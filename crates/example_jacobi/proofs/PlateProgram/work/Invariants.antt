-- It has made its block in each round so far.
use Rattle.seats.specs.Rounds.{HasMadeRounds}
use Rattle.seats.specs.Sitting.{seat_deeds}
use Rattle.seats.specs.Stencils.{stencil_rounds}
use Rattle.example_jacobi.specs.Plates.{plate}
use Rattle.example_jacobi.proofs.PlateProgram.work.Given as goal

abbrev pub invariant-loop-round : goal.invariant-loop-round
invariant-loop-round g l = HasMadeRounds (stencil_rounds plate) g.S.Sitting.at.number l.round (seat_deeds l.seat)
