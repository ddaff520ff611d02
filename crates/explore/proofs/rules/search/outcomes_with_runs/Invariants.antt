use Rattle.std.proofs.Common.{◌≡◌, ◌++◌, map}
use Rattle.std.specs.Global.{Vec}
use Rattle.base.specs.InOrderOnce.{Has}
use Rattle.journal.specs.declared.event.Event.{Event}
use Rattle.lrc_script.specs.Plan.{Plan}
use Rattle.explore.specs.declared.outcomes.answer.ScriptOutcome.{ScriptOutcome}
use Rattle.explore.specs.declared.outcomes.telling.Detail.{Detail}
use Rattle.explore.specs.declared.outcomes.showing.ShownRun.{ShownRun}
use Rattle.explore.specs.AllowedRuns.{IsAllowedRunShowing, shown_run_outcome}
use Rattle.explore.specs.AllowedSearch.{AreAllowedSearchRuns}
use Rattle.explore.specs.NotedOutcomes.{noted_outcomes}
use Rattle.explore.proofs.rules.search.outcomes_with_runs.Given as goal

abbrev pub invariant-loop-outcome : goal.invariant-loop-outcome
invariant-loop-outcome l = record {
  left : (e : ScriptOutcome × Vec Event) → Has l.outcome-iterator e → Has l.fn.outcomes.entries e;
  listed : map shown_run_outcome l.shown.items ++ noted_outcomes l.outcome-iterator ≡ noted_outcomes l.fn.outcomes.entries;
  runs : (s : Plan) (d : Detail) → AreAllowedSearchRuns s d l.fn.outcomes.entries → (x : ShownRun) → Has l.shown.items x
      → IsAllowedRunShowing s d x.events.items (shown_run_outcome x);
}
