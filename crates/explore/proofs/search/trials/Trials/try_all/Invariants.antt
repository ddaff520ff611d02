use Rattle.lrc_script.specs.Prelude.{plan_of}
use Rattle.explore.specs.NotedOutcomes.{noted_outcomes}
use Rattle.explore.specs.Trials.{AreTrials}
use Rattle.explore.proofs.search.trials.Trials.try_all.Given as goal

abbrev pub invariant-loop-number : goal.invariant-loop-number
invariant-loop-number l =
    AreTrials (plan_of l.script) l.detail (noted_outcomes l.known.entries) l.fn.self
    → AreTrials (plan_of l.script) l.detail (noted_outcomes l.known.entries) l.self
