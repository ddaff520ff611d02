-- What is promised of the text of whether a run of a script ends with words that were asked for.
use Rattle.std.specs.Prelude.{ℕ, ◌≡◌, List, ◌++◌, Option, codes}
use Rattle.std.specs.Io.KnownBytes.{Appends}
use Rattle.base.specs.InOrderOnce.{Has}
use Rattle.explore.specs.declared.outcomes.answer.RacyEvents.{RacyEvents}
use Rattle.explore.specs.declared.outcomes.showing.ExploredUntil.{ExploredUntil}
use Rattle.explore.specs.declared.outcomes.showing.Showing.{Showing}
use Rattle.explore.specs.declared.outcomes.showing.Showing.TheVariants.{Shown, Never, Racy, Undecided}
use Rattle.lrc_explore.specs.ExploreTexts.{IsExploreTextOfSchedule, explore_text_racy, explore_text_states}

-- each of these words is at an address that is shown
abbrev pub AreShowingWords : List ℕ → List (ℕ × ℕ) → Type 0
AreShowingWords shown words = (address word : ℕ) → Has words (address, word) → Has shown address

-- one of these words is at this address, which isn't shown
pub record IsShowingUnshown (shown : List ℕ) (words : List (ℕ × ℕ)) (address : ℕ) : Type 0 where
  pub word : ℕ
  pub asked : Has words (address, word)
  pub unshown : ¬ Has shown address

-- a run that ends with the words: a line of what it shows, and one of a schedule
abbrev pub IsShowingTextOfRun : ℕ → List ℕ → Type 0
IsShowingTextOfRun states text =
    (outcome schedule : List ℕ) × IsExploreTextOfSchedule schedule
    × (text ≡ codes "until shown\n" ++ outcome ++ schedule ++ explore_text_states states)

-- a schedule that races, and its turns
abbrev pub IsShowingTextOfRace : RacyEvents → ℕ → List ℕ → Type 0
IsShowingTextOfRace racy states text =
    (schedule : List ℕ) × IsExploreTextOfSchedule schedule
    × (text ≡ codes "verdict racy\n" ++ explore_text_racy racy.events.items racy.first ++ schedule ++ explore_text_states states)

-- the text by the answer, if so many states were found
abbrev pub IsShowingText : Showing → ℕ → List ℕ → Type 0
IsShowingText (Shown run) states text = IsShowingTextOfRun states text
IsShowingText Never states text = text ≡ codes "until never\n" ++ explore_text_states states
IsShowingText (Racy racy) states text = IsShowingTextOfRace racy states text
IsShowingText Undecided states text = text ≡ codes "until undecided\n" ++ explore_text_states states

-- such a text was appended
abbrev pub ShowingWritten : Option (List ℕ) → Option (List ℕ) → ExploredUntil → Type 0
ShowingWritten old new explored = (text : List ℕ) × IsShowingText explored.showing explored.states text × Appends old new text
