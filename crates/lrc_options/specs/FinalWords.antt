-- What the text of `--until` gives.
use Rattle.std.specs.Prelude.{ℕ, ◌≡◌, ◌≢◌, ◌<◌, List, [], ◌∷◌, Option, Some, None, length, slice_get}
use Rattle.base.specs.InOrderOnce.{Has}
use Rattle.lrc_script.specs.LineReading.{line_read_number, parts_of_read_line}

-- an address and a word, if both are numbers
abbrev pub final_word_pair : Option ℕ → Option ℕ → Option (ℕ × ℕ)
final_word_pair (Some address) (Some word) = Some (address, word)
final_word_pair _ _ = None

-- those that an item gives, by its parts between `=`
abbrev pub final_word_of : List (List ℕ) → Option (ℕ × ℕ)
final_word_of (address ∷ word ∷ []) = final_word_pair (line_read_number address) (line_read_number word)
final_word_of _ = None

-- one of the words is at this address
abbrev pub HasFinalWordAddress : List (ℕ × ℕ) → ℕ → Type 0
HasFinalWordAddress words address = (word : ℕ) × Has words (address, word)

-- these items give these words, in order, and no two of them are at one address
pub record AreFinalWordsWritten (items : List (List ℕ)) (words : List (ℕ × ℕ)) : Type 0 where
  pub long : length words ≡ length items
  pub each : (k : ℕ) (item : List ℕ) → slice_get items k ≡ Some item → slice_get words k ≡ final_word_of (parts_of_read_line 61 item)
  pub apart : (i k : ℕ) (v w : ℕ × ℕ) → i < k → slice_get words i ≡ Some v → slice_get words k ≡ Some w → v.0 ≢ w.0
