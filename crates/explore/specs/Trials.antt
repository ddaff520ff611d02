-- What a few runs of a script show.
use Rattle.std.specs.Prelude.{ℕ, IfSome, IsTrue, List}
use Rattle.std.specs.Global.{Vec}
use Rattle.base.specs.InOrderOnce.{Has, IsOnce}
use Rattle.journal.specs.declared.event.Event.{Event}
use Rattle.lrc_script.specs.Plan.{Plan}
use Rattle.explore.specs.declared.outcomes.answer.ScriptOutcome.{ScriptOutcome}
use Rattle.explore.specs.declared.outcomes.answer.ShownOutcome.{ShownOutcome}
use Rattle.explore.specs.declared.outcomes.telling.Detail.{Detail}
use Rattle.explore.specs.declared.search.trials.Trials.{Trials}
use Rattle.explore.specs.declared.state.wait_code.ProcessorNumber.{ProcessorNumber}
use Rattle.explore.specs.Explored.{IsExploredHang, IsExploredRacy, IsRunOfShownOutcome}
use Rattle.explore.specs.NotedOutcomes.{noted_outcomes}
use Rattle.explore.specs.Prefixes.FlatBeginnings.{IsFlatBeginningWhole}

-- an outcome, with who makes the events of a run
abbrev pub trial_outcome : ScriptOutcome × Vec ProcessorNumber → ShownOutcome
trial_outcome e = record { outcome = e.0; makers = e.1 }

-- whole runs show these outcomes, told by this detail, each is there once, and none is one of the known ones
pub record AreTrialOutcomes (s : Plan) (d : Detail) (known : List (List (List ℕ))) (outcomes : List (ScriptOutcome × Vec ProcessorNumber))
    : Type 0 where
  pub runs : (e : ScriptOutcome × Vec ProcessorNumber) → Has outcomes e → IsRunOfShownOutcome s d (trial_outcome e)
  pub once : IsOnce (noted_outcomes outcomes)
  pub new : (replies : List (List ℕ)) → Has (noted_outcomes outcomes) replies → ¬ Has known replies

-- a run races so, one hangs so, one comes to its end, and whole ones show these outcomes
pub record AreTrials (s : Plan) (d : Detail) (known : List (List (List ℕ))) (trials : Trials) : Type 0 where
  pub racy : IfSome trials.racy (IsExploredRacy s)
  pub hang : IfSome trials.hang (IsExploredHang s)
  pub ends : IsTrue trials.ends → (g : List Event) × IsFlatBeginningWhole s g
  pub outcomes : AreTrialOutcomes s d known trials.outcomes.entries
