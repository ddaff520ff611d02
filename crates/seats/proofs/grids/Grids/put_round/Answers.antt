use Rattle.std.proofs.Common.{◌≡◌, ◌+◌, ◌≤◌, subst, arith}
use Rattle.seats.specs.GridPairs.{grid_pair_block_end, grid_pair_block_start, grid_pair_made, grid_pair_read}
use Rattle.seats.specs.GridPairLayouts.{IsGridPairRoundPut}
use Rattle.seats.proofs.Rounds.ClosedLayouts.{closed_layout_put}
use Rattle.seats.proofs.Rounds.GridLayouts.{grid_layout_begins, grid_layout_made_begins, grid_layout_next, grid_layout_read_begins}
use Rattle.seats.proofs.grids.Grids.put_round.Goals as goal

pub loop-number-init : goal.loop-number-init
loop-number-init c =
    let cells = c.args.self.cells in
    let begins = grid_layout_read_begins cells c.args.round in
    let to : c.saturating_add.result ≡ grid_pair_read cells c.args.round + cells =
    omega (arith, c.saturating_add.ensures, c.read-read.ensures, begins, c.requires) in
    record {
      closed = λ was. closed_layout_put c.put.ensures (λ e. cc) was;
      put = grid_layout_begins cells c.args.self.share c.args.round c.read-read.result c.saturating_add.result _ _ c.read-read.ensures to c.put.ensures;
    }

pub loop-number-preserved : goal.loop-number-preserved
loop-number-preserved c =
    let cells = c.args.self.cells in
    let share = c.args.self.share in
    let p = c.loop-number.number in
    let begins = grid_layout_made_begins cells c.args.round in
    let first : grid_pair_block_start cells share p ≤ cells = omega arith in
    let last : grid_pair_block_end cells share p ≤ cells = omega arith in
    let from : c.saturating_add-start.result ≡ grid_pair_made cells c.args.round + grid_pair_block_start cells share p =
    omega (arith, c.saturating_add-start.ensures, c.made-made.ensures, c.block_start.ensures, begins, first, c.requires) in
    let to : c.saturating_add-end.result ≡ grid_pair_made cells c.args.round + grid_pair_block_end cells share p =
    omega (arith, c.saturating_add-end.ensures, c.made-made.ensures, c.block_end.ensures, begins, last, c.requires) in
    record {
      closed = λ was. closed_layout_put c.put-in-loop-number.ensures (λ e. cc) (c.loop-number.invariant.closed was);
      put = grid_layout_next cells share c.args.round p c.saturating_add-start.result c.saturating_add-end.result _ c.loop-number.layout _ from to
          c.loop-number.invariant.put c.put-in-loop-number.ensures;
    }

pub returns-clause-put : goal.returns-clause-put
returns-clause-put c =
    let all : c.loop-number.number ≡ c.args.processors = omega arith in
    subst (λ k. IsGridPairRoundPut c.args.self.cells c.args.self.share c.args.round k c.args.layout.now c.loop-number.layout) all
    c.loop-number.invariant.put
