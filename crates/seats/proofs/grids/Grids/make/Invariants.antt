-- The cells of the block so far are made.
use Rattle.std.proofs.Common.{◌+◌}
use Rattle.seats.specs.GridPairs.{grid_pair_block_start, grid_pair_made}
use Rattle.seats.specs.Rounds.{IsMaking}
use Rattle.seats.specs.Stencils.{stencil_rounds}
use Rattle.seats.proofs.grids.Grids.make.Given as goal

abbrev pub invariant-loop-cell : goal.invariant-loop-cell
invariant-loop-cell g l =
    let x = g.T.Stencil.steps in
    let made = grid_pair_made x.cells l.round in
    IsMaking (stencil_rounds x) l.round (made + grid_pair_block_start x.cells x.share g.S.Sitting.at.number) (made + l.cell) l.fn.seat l.seat
