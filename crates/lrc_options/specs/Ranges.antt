-- What the texts of `--events` and `--processors` give.
use Rattle.std.specs.Prelude.{ℕ, ◌≡◌, ◌⊎◌, ◌+◌, ◌<◌, ◌↔◌, List, [], ◌∷◌, Bool, true, Option, Some, None, IfSome, length, slice_get}
use Rattle.base.specs.InOrderOnce.{Has}
use Rattle.lrc_script.specs.LineReading.{line_read_number, parts_of_read_line}
use Rattle.lrc_options.specs.declared.ranges.EventRange.{EventRange}

-- a range whose text begins so starts at n: at the number that is written, at 0 where nothing is
abbrev pub IsOptionRangeStart : List ℕ → ℕ → Type 0
IsOptionRangeStart text n = ((text ≡ []) × (n ≡ 0)) ⊎ (line_read_number text ≡ Some n)

-- one whose text ends so ends there: behind the number that is written, nowhere where nothing is
abbrev pub IsOptionRangeEnd : List ℕ → Option ℕ → Type 0
IsOptionRangeEnd text o = ((text ≡ []) × (o ≡ None)) ⊎ ((n : ℕ) × (line_read_number text ≡ Some n) × (o ≡ Some (n + 1)))

-- the text A..B, A.. or ..B gives this range, which isn't empty
pub record IsOptionRangeWritten (text : List ℕ) (x : EventRange) : Type 0 where
  pub from : List ℕ
  pub to : List ℕ
  pub parts : parts_of_read_line 46 text ≡ from ∷ [] ∷ to ∷ []
  pub start : IsOptionRangeStart from x.first
  pub end_is : IsOptionRangeEnd to x.end
  pub some : IfSome x.end (λ n. x.first < n)

-- processors of a trace that is told
abbrev pub most_trace_processors : ℕ
most_trace_processors = 256

-- each of these words is a number below n, and the processors of these numbers are marked
pub record AreProcessorsWritten (n : ℕ) (words : List (List ℕ)) (marks : List Bool) : Type 0 where
  pub long : length marks ≡ most_trace_processors
  pub each : (word : List ℕ) → Has words word → (p : ℕ) × (line_read_number word ≡ Some p) × (p < n)
  pub marked : (p : ℕ) → (slice_get marks p ≡ Some true) ↔ ((word : List ℕ) × Has words word × (line_read_number word ≡ Some p))
