use Rattle.std.proofs.Common.{take}
use Rattle.explore.specs.CallTables.{TellsCallRow}
use Rattle.explore.proofs.state.call_table.CallRow.of_steps.Given as goal

abbrev pub invariant-loop-step : goal.invariant-loop-step
invariant-loop-step l = TellsCallRow (take l.step-index l.steps) l.row
