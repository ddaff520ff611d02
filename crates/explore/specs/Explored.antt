-- What an answer says of all runs of a script on one flat memory.
use Rattle.std.specs.Prelude.{ℕ, ◌≡◌, ◌+◌, ◌<◌, ◌≤◌, ⊤, Bool, true, false, IsTrue, List, map, length}
use Rattle.std.specs.Global.{Vec}
use Rattle.base.specs.InOrderOnce.{Has, IsOnce}
use Rattle.journal.specs.declared.event.Event.{Event}
use Rattle.journal.specs.Races.{IsFirstRace}
use Rattle.lrc_script.specs.Plan.{Plan}
use Rattle.explore.specs.declared.outcomes.answer.Explored.{Explored}
use Rattle.explore.specs.declared.outcomes.answer.Hang.{Hang}
use Rattle.explore.specs.declared.outcomes.answer.Hanging.{Hanging}
use Rattle.explore.specs.declared.outcomes.answer.Hanging.TheVariants as hanging
use Rattle.explore.specs.declared.outcomes.answer.ScriptOutcome.{ScriptOutcome}
use Rattle.explore.specs.declared.outcomes.answer.ShownOutcome.{ShownOutcome}
use Rattle.explore.specs.declared.state.wait_code.ProcessorNumber.{ProcessorNumber}
use Rattle.explore.specs.declared.outcomes.answer.RacyEvents.{RacyEvents}
use Rattle.explore.specs.declared.outcomes.answer.Verdict.{Verdict}
use Rattle.explore.specs.declared.outcomes.answer.Verdict.TheVariants as verdict
use Rattle.explore.specs.declared.outcomes.telling.Detail.{Detail}
use Rattle.explore.specs.Prefixes.FlatBeginnings.{IsFlatBeginning, AreFlatBeginningsRaceFree, IsFlatBeginningHanging, IsFlatBeginningWhole}
use Rattle.explore.specs.FlatOutcomes.{IsFlatOutcome}
use Rattle.explore.specs.OutcomeTelling.{AreOutcomeTellingReplies, outcome_telling_of_script}
use Rattle.explore.specs.StateRoom.{state_room_at_most}
use Rattle.explore.specs.StatesOfScript.{HasStatesOfScript}
use Rattle.explore.specs.KeptWaiting.{AreKeptWaitingKinds}

-- a prefix whose last event is the first that races
pub record IsExploredRacy (s : Plan) (racy : RacyEvents) : Type 0 where
  pub beginning : IsFlatBeginning s racy.events.items
  pub last : ℕ
  pub is_last : length racy.events.items ≡ last + 1
  pub race : IsFirstRace racy.events.items racy.first last

-- a hang, and what each processor waits for
pub record IsExploredHang (s : Plan) (hang : Hang) : Type 0 where
  pub is : IsFlatBeginningHanging s hang.events.items
  pub long : length hang.waits.items ≡ s.processors
  pub waits : AreKeptWaitingKinds hang.events.items hang.waits.items

-- an outcome, as it lies outside of memory
abbrev pub explored_outcome : ScriptOutcome → List (List ℕ)
explored_outcome o = map (λ (v : Vec ℕ). v.items) o.replies.items

-- the same of one with a run that shows it
abbrev pub shown_outcome : ShownOutcome → List (List ℕ)
shown_outcome x = explored_outcome x.outcome

-- a whole run whose events these processors make shows it, told by this detail
pub record IsRunOfShownOutcome (s : Plan) (d : Detail) (x : ShownOutcome) : Type 0 where
  pub events : List Event
  pub whole : IsFlatBeginningWhole s events
  pub told : AreOutcomeTellingReplies s (outcome_telling_of_script s d) events (shown_outcome x)
  pub makers : map (λ (e : Event). e.processor) events ≡ map (λ (n : ProcessorNumber). n.0) x.makers.items

-- whole runs show each of these, told by this detail, and each is there once
pub record AreExploredOutcomes (s : Plan) (d : Detail) (outcomes : List (List (List ℕ))) : Type 0 where
  pub each : (replies : List (List ℕ)) → Has outcomes replies → IsFlatOutcome s d replies
  pub once : IsOnce outcomes

-- whole runs show nothing else
abbrev pub AreAllOutcomesExplored : Plan → Detail → List (List (List ℕ)) → Type 0
AreAllOutcomesExplored s d outcomes = (replies : List (List ℕ)) → IsFlatOutcome s d replies → Has outcomes replies

-- what is so by the verdict
abbrev pub IsExploredVerdict : Plan → Verdict → Type 0
IsExploredVerdict s verdict.RaceFree = AreFlatBeginningsRaceFree s
IsExploredVerdict s (verdict.Racy racy) = IsExploredRacy s racy
IsExploredVerdict s verdict.Undecided = ⊤

-- what is so by the answer on hangs
abbrev pub IsExploredHanging : Plan → Hanging → Type 0
IsExploredHanging s hanging.Never = (g : List Event) → ¬ IsFlatBeginningHanging s g
IsExploredHanging s (hanging.Hangs hang) = IsExploredHang s hang
IsExploredHanging s hanging.Undecided = ⊤

-- whether nothing is open, if all outcomes are known or not
abbrev pub explored_settles : Verdict → Hanging → Bool → Bool
explored_settles (verdict.Racy racy) _ all = true
explored_settles verdict.RaceFree hanging.Never all = all
explored_settles verdict.RaceFree (hanging.Hangs hang) all = all
explored_settles _ _ all = false

abbrev pub is_explored_settled : Explored → Bool
is_explored_settled answer = explored_settles answer.verdict answer.hanging answer.are_all

-- what an answer by this detail says, if so many states were asked for: the script has as many as were found, which are no more than
-- those to be looked at and what comes next after one; each answer is true; and one is open only if there are more
-- states than were asked for, or than fit
pub record IsExplored (s : Plan) (d : Detail) (most : ℕ) (answer : Explored) : Type 0 where
  pub states : HasStatesOfScript s d answer.states
  pub few : answer.states ≤ state_room_at_most s d most + 16
  pub verdict : IsExploredVerdict s answer.verdict
  pub hanging : IsExploredHanging s answer.hanging
  pub outcomes : AreExploredOutcomes s d (map shown_outcome answer.outcomes.items)
  pub runs : (x : ShownOutcome) → Has answer.outcomes.items x → IsRunOfShownOutcome s d x
  pub all : IsTrue answer.are_all → AreAllOutcomesExplored s d (map shown_outcome answer.outcomes.items)
  pub given_up : is_explored_settled answer ≡ false → state_room_at_most s d most < answer.states
