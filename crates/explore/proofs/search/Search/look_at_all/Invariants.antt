use Rattle.std.proofs.Common.{◌≡◌, ◌+◌, ◌≤◌, length}
use Rattle.lrc_script.specs.Plan.{Plan}
use Rattle.explore.specs.FoundStates.{found_states}
use Rattle.explore.specs.Machines.{AreLawfulMachineSteps}
use Rattle.explore.specs.FlatSearch.{FlatSearchedUpTo}
use Rattle.explore.specs.FlatSearchEnds.{FlatSearchedWithout}
use Rattle.explore.specs.SearchGoals.{IsRunOfGoal}
use Rattle.explore.proofs.search.Search.look_at_all.Given as goal

abbrev pub invariant-loop-place : goal.invariant-loop-place
invariant-loop-place g l = record {
  searched : (s : Plan) → AreLawfulMachineSteps s l.steps → FlatSearchedUpTo s l.initial.self l.steps 0
      → FlatSearchedWithout s l.self l.steps (IsRunOfGoal s l.goal) l.place;
  few : (s : Plan) → AreLawfulMachineSteps s l.steps → FlatSearchedUpTo s l.initial.self l.steps 0
      → length (found_states l.initial.self.found) ≤ 1 → length (found_states l.self.found) ≤ l.most + 16;
  telling : (s : Plan) → AreLawfulMachineSteps s l.steps → FlatSearchedUpTo s l.initial.self l.steps 0
      → l.self.found.first.telling ≡ l.initial.self.found.first.telling;
}
