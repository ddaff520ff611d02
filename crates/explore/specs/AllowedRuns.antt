-- What runs of a script may show by the rules of the memory alone, whether it races or not.
use Rattle.std.specs.Prelude.{ℕ, ◌≡◌, ◌+◌, false, IsTrue, List, length, map}
use Rattle.base.specs.InOrderOnce.{Has, IsOnce}
use Rattle.journal.specs.declared.event.Event.{Event}
use Rattle.journal.specs.ExplainedAnswers.{Explained}
use Rattle.journal.specs.WellFormed.{WellFormed}
use Rattle.lrc_script.specs.Plan.{Plan}
use Rattle.conformance.specs.ScriptBegins.{BeginsScript}
use Rattle.conformance.specs.FlatRuns.{FlatRunHasNoFetch}
use Rattle.conformance.specs.Follows.{Follows, plan_sizes}
use Rattle.explore.specs.declared.rules.showing.AllowedOutcomes.{AllowedOutcomes}
use Rattle.explore.specs.AllowedRoom.{allowed_room_at_most}
use Rattle.explore.specs.Explored.{explored_outcome}
use Rattle.explore.specs.declared.outcomes.telling.Detail.{Detail}
use Rattle.explore.specs.declared.outcomes.showing.ShownRun.{ShownRun}
use Rattle.explore.specs.OutcomeTelling.{AreOutcomeTellingReplies, outcome_telling_of_script}

-- processors have begun the script, each load answers a latest store of its past, and nothing is fetched
pub record IsAllowedRunBeginning (s : Plan) (g : List Event) : Type 0 where
  pub well_formed : WellFormed (plan_sizes s) g
  pub begins : BeginsScript s g
  pub explained : Explained g
  pub no_fetch : FlatRunHasNoFetch g

-- and all of them have done all of it
pub record IsAllowedRun (s : Plan) (g : List Event) : Type 0 where
  pub beginning : IsAllowedRunBeginning s g
  pub follows : Follows s g

-- some such run shows this, told by this detail: the loads by which processor 0 shows the words at the end answer as loads do, each a
-- latest store
abbrev pub IsAllowedRunOutcome : Plan → Detail → List (List ℕ) → Type 0
IsAllowedRunOutcome s d replies = (g : List Event) × IsAllowedRun s g × AreOutcomeTellingReplies s (outcome_telling_of_script s d) g replies

-- this run does
pub record IsAllowedRunShowing (s : Plan) (d : Detail) (g : List Event) (replies : List (List ℕ)) : Type 0 where
  pub run : IsAllowedRun s g
  pub told : AreOutcomeTellingReplies s (outcome_telling_of_script s d) g replies

-- what a run that is told shows
abbrev pub shown_run_outcome : ShownRun → List (List ℕ)
shown_run_outcome x = explored_outcome x.outcome

-- such runs have so many beginnings at least
pub record HasAllowedRunBeginnings (s : Plan) (n : ℕ) : Type 0 where
  pub beginnings : List (List Event)
  pub many : length beginnings ≡ n
  pub once : IsOnce beginnings
  pub each : (g : List Event) → Has beginnings g → IsAllowedRunBeginning s g

-- what an answer by this detail says, if so many beginnings were asked for: it looked at so many; the rules allow each run, which shows
-- its outcome, and each outcome is there once; if they are said to be all, the rules allow nothing else; and if they aren't, there are more beginnings than were to be looked at
pub record AreAllowedRunOutcomes (s : Plan) (d : Detail) (most : ℕ) (answer : AllowedOutcomes) : Type 0 where
  pub looked_at : HasAllowedRunBeginnings s answer.beginnings
  pub each : (x : ShownRun) → Has answer.outcomes.items x → IsAllowedRunShowing s d x.events.items (shown_run_outcome x)
  pub once : IsOnce (map shown_run_outcome answer.outcomes.items)
  pub all : IsTrue answer.are_all → (replies : List (List ℕ)) → IsAllowedRunOutcome s d replies
      → Has (map shown_run_outcome answer.outcomes.items) replies
  pub given_up : answer.are_all ≡ false → HasAllowedRunBeginnings s (allowed_room_at_most s most + 1)
