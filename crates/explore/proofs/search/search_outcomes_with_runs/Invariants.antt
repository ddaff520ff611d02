use Rattle.std.proofs.Common.{ℕ, ◌≡◌, ◌++◌, map}
use Rattle.base.specs.InOrderOnce.{Has}
use Rattle.lrc_script.specs.Plan.{Plan}
use Rattle.explore.specs.declared.outcomes.answer.ScriptOutcome.{ScriptOutcome}
use Rattle.explore.specs.declared.outcomes.answer.ShownOutcome.{ShownOutcome}
use Rattle.explore.specs.declared.outcomes.telling.Detail.{Detail}
use Rattle.explore.specs.Explored.{IsRunOfShownOutcome, shown_outcome}
use Rattle.explore.specs.FlatSearch.{AreFlatSearchPlaces}
use Rattle.explore.specs.FoundStates.{AreFoundStates, found_states}
use Rattle.explore.specs.NotedOutcomes.{noted_outcomes}
use Rattle.explore.specs.OutcomeTelling.{outcome_telling_of_script}
use Rattle.explore.proofs.search.search_outcomes_with_runs.Given as goal

abbrev pub invariant-loop-outcome : goal.invariant-loop-outcome
invariant-loop-outcome l = record {
  left : (e : ScriptOutcome × ℕ) → Has l.outcome-iterator e → Has l.fn.outcomes.entries e;
  listed : map shown_outcome l.shown.items ++ noted_outcomes l.outcome-iterator ≡ noted_outcomes l.fn.outcomes.entries;
  runs : (s : Plan) (d : Detail) → AreFoundStates s l.found → AreFlatSearchPlaces s (found_states l.found) l.fn.outcomes.entries
      → l.found.first.telling ≡ outcome_telling_of_script s d → (x : ShownOutcome) → Has l.shown.items x → IsRunOfShownOutcome s d x;
}
