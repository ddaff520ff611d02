-- Whether a run of a script on one flat memory ends with words that are asked for.
use Rattle.std.specs.Prelude.{ℕ, ◌≡◌, ◌+◌, ◌<◌, ◌≤◌, ⊤, Bool, true, false, List, Some, replicate, slice_get}
use Rattle.base.specs.InOrderOnce.{Has}
use Rattle.journal.specs.declared.event.Event.{Event}
use Rattle.journal.specs.ReplayMemory.{memory_after}
use Rattle.journal.specs.Races.{RaceFree}
use Rattle.lrc_script.specs.Plan.{Plan}
use Rattle.lrc_script.specs.Lawful.{plan_addresses}
use Rattle.explore.specs.declared.outcomes.showing.ExploredUntil.{ExploredUntil}
use Rattle.explore.specs.declared.outcomes.showing.Showing.{Showing}
use Rattle.explore.specs.declared.outcomes.showing.Showing.TheVariants.{Shown, Never, Racy, Undecided}
use Rattle.explore.specs.declared.outcomes.showing.ShownRun.{ShownRun}
use Rattle.explore.specs.declared.outcomes.telling.Detail.{Detail}
use Rattle.explore.specs.Explored.{IsExploredRacy, explored_outcome}
use Rattle.explore.specs.Prefixes.FlatBeginnings.{AreFlatBeginningsRaceFree, IsFlatBeginningWhole}
use Rattle.explore.specs.StateRoom.{state_room_at_most}
use Rattle.explore.specs.StatesOfScript.{HasStatesOfScript}
use Rattle.explore.specs.OutcomeTelling.{AreOutcomeTellingReplies, outcome_telling_of_script}

-- at each of these addresses the memory has this word
abbrev pub HasEndingWords : List ℕ → List (ℕ × ℕ) → Type 0
HasEndingWords memory words = (address word : ℕ) → Has words (address, word) → slice_get memory address ≡ Some word

-- after these events the flat memory has them
abbrev pub EndsWithWords : Plan → List (ℕ × ℕ) → List Event → Type 0
EndsWithWords s words g = HasEndingWords (memory_after (replicate (plan_addresses s) 0) g) words

-- a whole run that ends with these words
pub record IsRunEndingWithWords (s : Plan) (words : List (ℕ × ℕ)) (g : List Event) : Type 0 where
  pub whole : IsFlatBeginningWhole s g
  pub ends : EndsWithWords s words g

-- such a run without a race, and what it shows, told by this detail
pub record IsShownRunEndingWithWords (s : Plan) (d : Detail) (words : List (ℕ × ℕ)) (run : ShownRun) : Type 0 where
  pub is : IsRunEndingWithWords s words run.events.items
  pub race_free : RaceFree run.events.items
  pub outcome : AreOutcomeTellingReplies s (outcome_telling_of_script s d) run.events.items (explored_outcome run.outcome)

-- no run ends with these words
abbrev pub NoRunEndsWithWords : Plan → List (ℕ × ℕ) → Type 0
NoRunEndsWithWords s words = (g : List Event) → ¬ IsRunEndingWithWords s words g

-- what is so by the answer
abbrev pub IsEndingWordsShowing : Plan → Detail → List (ℕ × ℕ) → Showing → Type 0
IsEndingWordsShowing s d words (Shown run) = IsShownRunEndingWithWords s d words run
IsEndingWordsShowing s d words Never = NoRunEndsWithWords s words × AreFlatBeginningsRaceFree s
IsEndingWordsShowing s d words (Racy racy) = IsExploredRacy s racy
IsEndingWordsShowing s d words Undecided = ⊤

-- whether nothing is open
abbrev pub are_ending_words_settled : Showing → Bool
are_ending_words_settled Undecided = false
are_ending_words_settled _ = true

-- what an answer by this detail says, if so many states were asked for: the script has as many as were found, which are no more than
-- those to be looked at and what comes next after one; the answer is true; and it is open only if there are more states
-- than were asked for, or than fit
pub record IsExploredUntil (s : Plan) (d : Detail) (words : List (ℕ × ℕ)) (most : ℕ) (answer : ExploredUntil) : Type 0 where
  pub states : HasStatesOfScript s d answer.states
  pub few : answer.states ≤ state_room_at_most s d most + 16
  pub showing : IsEndingWordsShowing s d words answer.showing
  pub given_up : are_ending_words_settled answer.showing ≡ false → state_room_at_most s d most < answer.states
