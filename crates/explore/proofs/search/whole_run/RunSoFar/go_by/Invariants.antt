use Rattle.std.proofs.Common.{◌≡◌}
use Rattle.lrc_script.specs.Plan.{Plan}
use Rattle.explore.specs.Machines.{AreLawfulMachineSteps}
use Rattle.explore.specs.WholeRuns.{HasRun}
use Rattle.explore.proofs.search.whole_run.RunSoFar.go_by.Given as goal

abbrev pub invariant-loop : goal.invariant-loop
invariant-loop l = record {
  run : (s : Plan) → AreLawfulMachineSteps s l.steps → HasRun s l.initial.self → HasRun s l.self;
  telling : l.self.state.telling ≡ l.initial.self.state.telling;
}
