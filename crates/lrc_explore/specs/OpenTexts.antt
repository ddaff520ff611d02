-- What is promised of the text of what was found of a script of which something is open.
use Rattle.std.specs.Prelude.{ℕ, ◌≡◌, List, ◌++◌, Option}
use Rattle.std.specs.Io.KnownBytes.{Appends}
use Rattle.explore.specs.declared.outcomes.answer.Explored.{Explored}
use Rattle.lrc_explore.specs.ExploreTexts.{IsExploreText}

-- the text of what all schedules come to, and some lines on what leaves it open
abbrev pub IsOpenText : Explored → List ℕ → Type 0
IsOpenText explored text = (front lines : List ℕ) × IsExploreText explored front × (text ≡ front ++ lines)

-- such a text was appended
abbrev pub OpenTextWritten : Option (List ℕ) → Option (List ℕ) → Explored → Type 0
OpenTextWritten old new explored = (text : List ℕ) × IsOpenText explored text × Appends old new text
