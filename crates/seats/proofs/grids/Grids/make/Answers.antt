use Rattle.std.proofs.Common.{◌≡◌, ◌+◌, ◌<◌, ◌≤◌, subst, arith}
use Rattle.seats.specs.GridPairs.{grid_pair_block_end, grid_pair_block_start, grid_pair_made}
use Rattle.seats.specs.Rounds.{IsMaking}
use Rattle.seats.specs.Stencils.{stencil_rounds}
use Rattle.seats.proofs.Rounds.MakingRounds.{making_round_nothing}
use Rattle.seats.proofs.Rounds.StencilRounds.{stencil_round_cell}
use Rattle.seats.proofs.grids.Grids.make.Goals as goal

pub loop-cell-init : goal.loop-cell-init
loop-cell-init g c =
    let x = g.T.Stencil.steps in
    let p = g.S.Sitting.at.number in
    let lo = grid_pair_made x.cells c.args.round + grid_pair_block_start x.cells x.share p in
    let start : grid_pair_block_start x.cells x.share p ≡ c.block_start-cell.result = cc in
    subst (λ i. IsMaking (stencil_rounds x) c.args.round lo (grid_pair_made x.cells c.args.round + i) c.args.seat.now c.args.seat.now)
    start (making_round_nothing (stencil_rounds x) c.args.round lo c.args.seat.now)

pub loop-cell-preserved : goal.loop-cell-preserved
loop-cell-preserved g c =
    let x = g.T.Stencil.steps in
    let made : c.made-made.result ≡ grid_pair_made x.cells c.args.round = cc in
    let start : c.block_start-cell.result ≡ grid_pair_block_start x.cells x.share g.S.Sitting.at.number = cc in
    let less : c.loop-cell.cell < x.cells = omega arith in
    let begun : grid_pair_block_start x.cells x.share g.S.Sitting.at.number ≤ c.loop-cell.cell = omega arith in
    stencil_round_cell x made (begun, less) c.loop-cell.invariant c.in_ok-word.ensures c.in_ok-store.ensures.ok

pub returns : goal.returns
returns g c =
    let x = g.T.Stencil.steps in
    let p = g.S.Sitting.at.number in
    let made = grid_pair_made x.cells c.args.round in
    let end : c.block_end-cell-end.result ≡ grid_pair_block_end x.cells x.share p = cc in
    let is : c.loop-cell.cell ≡ grid_pair_block_end x.cells x.share p = omega arith in
    subst (λ i. IsMaking (stencil_rounds x) c.args.round (made + grid_pair_block_start x.cells x.share p) (made + i) c.args.seat.now c.loop-cell.seat)
    is c.loop-cell.invariant
