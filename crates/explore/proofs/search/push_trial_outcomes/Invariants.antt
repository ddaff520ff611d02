use Rattle.std.proofs.Common.{◌≡◌, ◌++◌, map}
use Rattle.explore.specs.Trials.{trial_outcome}
use Rattle.explore.proofs.search.push_trial_outcomes.Given as goal

abbrev pub invariant-loop-outcome : goal.invariant-loop-outcome
invariant-loop-outcome l =
    l.shown.items ++ map trial_outcome l.outcome-iterator ≡ l.initial.shown.items ++ map trial_outcome l.fn.outcomes.entries
