-- What is promised of the text of what runs of a racy script may show by the rules of the memory.
use Rattle.std.specs.Prelude.{ℕ, ◌≡◌, Bool, true, false, List, ◌++◌, Option, codes, vec_len}
use Rattle.std.specs.Fmt.{decimal}
use Rattle.std.specs.Io.KnownBytes.{Appends}
use Rattle.explore.specs.declared.rules.showing.AllowedOutcomes.{AllowedOutcomes}
use Rattle.explore.specs.declared.outcomes.answer.Explored.{Explored}
use Rattle.lrc_explore.specs.ExploreTexts.{IsExploreText}

-- whether the rules allow no other outcomes
abbrev pub allowed_text_end : Bool → List ℕ
allowed_text_end true = codes " by the rules\n"
allowed_text_end false = codes " by the rules so far\n"

-- how many they allow
abbrev pub allowed_text_count : ℕ → Bool → List ℕ
allowed_text_count outcomes all = codes "outcomes " ++ decimal outcomes ++ allowed_text_end all

-- how many beginnings of runs were looked at
abbrev pub allowed_text_beginnings : ℕ → List ℕ
allowed_text_beginnings beginnings = codes "beginnings " ++ decimal beginnings ++ codes "\n"

-- what is told of them, with some lines on the outcomes
abbrev pub allowed_text_told : AllowedOutcomes → List ℕ → List ℕ
allowed_text_told allowed lines =
    allowed_text_count (vec_len allowed.outcomes) allowed.are_all ++ lines ++ allowed_text_beginnings allowed.beginnings

-- behind the text of what all schedules come to
abbrev pub IsAllowedText : Explored → AllowedOutcomes → List ℕ → Type 0
IsAllowedText explored allowed text =
    (front lines : List ℕ) × IsExploreText explored front × (text ≡ front ++ allowed_text_told allowed lines)

-- such a text was appended
abbrev pub AllowedTextWritten : Option (List ℕ) → Option (List ℕ) → Explored → AllowedOutcomes → Type 0
AllowedTextWritten old new explored allowed = (text : List ℕ) × IsAllowedText explored allowed text × Appends old new text
