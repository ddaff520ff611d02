use Rattle.seats.proofs.Rounds.StencilRounds.{block_done, rounds_new}
use Rattle.example_jacobi.specs.Plates.{plate}
use Rattle.example_jacobi.proofs.PlateProgram.work.Goals as goal

pub loop-round-init : goal.loop-round-init
loop-round-init g c = rounds_new g.S.Sitting.at _ _ c.requires

pub loop-round-preserved : goal.loop-round-preserved
loop-round-preserved g c = block_done plate c.loop-round.invariant c.in_ok-make.ensures c.in_ok-barrier.ensures.ok
