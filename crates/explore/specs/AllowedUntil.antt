-- Whether the rules of the memory alone allow a run of a script that ends with words that are asked for.
use Rattle.std.specs.Prelude.{ℕ, ◌≡◌, ◌↔◌, ◌+◌, ◌≤◌, Bool, true, false, List, map}
use Rattle.base.specs.InOrderOnce.{Has}
use Rattle.journal.specs.declared.event.Event.{Event}
use Rattle.lrc_script.specs.Plan.{Plan}
use Rattle.conformance.specs.Follows.{calls_of}
use Rattle.conformance.specs.ScriptReports.{AreRepliesOfScriptReport}
use Rattle.explore.specs.declared.rules.showing.AllowedShowing.{AllowedShowing}
use Rattle.explore.specs.declared.rules.showing.AllowedShowing.TheVariants.{Shown, Never, Undecided}
use Rattle.explore.specs.declared.rules.showing.AllowedUntil.{AllowedUntil}
use Rattle.explore.specs.declared.outcomes.telling.Detail.{Detail}
use Rattle.explore.specs.declared.outcomes.showing.ShownRun.{ShownRun}
use Rattle.explore.specs.AllowedRoom.{allowed_room_at_most}
use Rattle.explore.specs.AllowedRuns.{HasAllowedRunBeginnings, IsAllowedRun}
use Rattle.explore.specs.Explored.{explored_outcome}
use Rattle.explore.specs.OutcomeTelling.{AreOutcomeTellingReplies, outcome_telling_of_script}

-- each of these words is shown at its address, and no other one is there, however often it is shown
abbrev pub AreAllowedUntilWords : List (ℕ × ℕ) → List (ℕ × ℕ) → Type 0
AreAllowedUntilWords words shown = (address word w : ℕ) → Has words (address, word) → Has shown (address, w) ↔ (w ≡ word)

-- a run that the rules allow, and that ends with these words: the loads by which processor 0 shows words at the end answer them. None ends with a
-- word at an address that isn't shown
pub record IsAllowedUntilRun (s : Plan) (words : List (ℕ × ℕ)) (g : List Event) : Type 0 where
  pub run : IsAllowedRun s g
  pub shown : List (ℕ × ℕ)
  pub addresses : map (λ (x : ℕ × ℕ). x.0) shown ≡ s.shown
  pub replies : AreRepliesOfScriptReport (calls_of g 0) shown
  pub ends : AreAllowedUntilWords words shown

-- such a run, and what it shows, told by this detail
pub record IsAllowedUntilShown (s : Plan) (d : Detail) (words : List (ℕ × ℕ)) (run : ShownRun) : Type 0 where
  pub is : IsAllowedUntilRun s words run.events.items
  pub outcome : AreOutcomeTellingReplies s (outcome_telling_of_script s d) run.events.items (explored_outcome run.outcome)

-- the rules allow none
abbrev pub AllowedUntilNever : Plan → List (ℕ × ℕ) → Type 0
AllowedUntilNever s words = (g : List Event) → ¬ IsAllowedUntilRun s words g

-- what is so by the answer; it is open only if there are more beginnings than were to be looked at
abbrev pub IsAllowedUntilShowing : Plan → Detail → List (ℕ × ℕ) → ℕ → AllowedShowing → Type 0
IsAllowedUntilShowing s d words most (Shown run) = IsAllowedUntilShown s d words run
IsAllowedUntilShowing s d words most Never = AllowedUntilNever s words
IsAllowedUntilShowing s d words most Undecided = HasAllowedRunBeginnings s (allowed_room_at_most s most + 1)

-- whether nothing is open
abbrev pub is_allowed_until_settled : AllowedShowing → Bool
is_allowed_until_settled Undecided = false
is_allowed_until_settled _ = true

-- what an answer by this detail says, if so many beginnings were asked for: it looked at so many, no more than that, and the answer is true
pub record IsAllowedUntil (s : Plan) (d : Detail) (words : List (ℕ × ℕ)) (most : ℕ) (answer : AllowedUntil) : Type 0 where
  pub looked_at : HasAllowedRunBeginnings s answer.beginnings
  pub few : answer.beginnings ≤ allowed_room_at_most s most
  pub showing : IsAllowedUntilShowing s d words most answer.showing
