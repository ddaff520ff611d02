-- No word is open to all still, and the blocks so far have their owners.
use Rattle.seats.specs.GridPairLayouts.{IsGridPairRoundPut}
use Rattle.seats.specs.Tables.{TablesOpenNothing}
use Rattle.seats.proofs.grids.Grids.put_round.Given as goal

abbrev pub invariant-loop-number : goal.invariant-loop-number
invariant-loop-number l = record {
  closed : TablesOpenNothing l.fn.layout → TablesOpenNothing l.layout;
  put : IsGridPairRoundPut l.self.cells l.self.share l.round l.number l.fn.layout l.layout;
}
