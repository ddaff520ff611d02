-- A line of a script with a caret under a word.
use Rattle.std.specs.Prelude.{ℕ, ◌≡◌, ◌≤◌, ◌+◌, ◌-◌, ◌&&◌, nat_le, nat_lt, if◌then◌else◌, List, [], ◌∷◌, ◌++◌, codes, drop, length, map, replicate, slice_index_or, take}
use Rattle.std.specs.Fmt.{decimal}
use Rattle.lrc_script.specs.LineReading.{parts_of_read_line}
use Rattle.lrc_script.specs.ScriptLines.{script_line_space}

-- the line of this number, counted from 1
abbrev pub excerpt_line_at : List ℕ → ℕ → List ℕ
excerpt_line_at text number = slice_index_or (parts_of_read_line 10 text) (number - 1) []

-- an ASCII sign as itself, and a question mark for any other byte
abbrev pub excerpt_sign_of : ℕ → ℕ
excerpt_sign_of byte = if nat_le 32 byte && nat_le byte 126 then byte else 63

-- what is shown of a line from a place on: 72 bytes, and dots if there are more
abbrev pub excerpt_rest_text : List ℕ → List ℕ
excerpt_rest_text rest = if nat_le (length rest) 72 then map excerpt_sign_of rest ++ codes "\n" else map excerpt_sign_of (take 72 rest) ++ codes "..\n"

-- what is shown of a line in which a word begins behind so many bytes: if that is far, 40 bytes before it and what follows
abbrev pub excerpt_shown_text : List ℕ → ℕ → List ℕ
excerpt_shown_text line at = if nat_lt at 60 then codes "  " ++ excerpt_rest_text line else codes "  .." ++ excerpt_rest_text (drop (at - 40) line)

-- the caret below
abbrev pub excerpt_caret_text : ℕ → List ℕ
excerpt_caret_text at = (if nat_lt at 60 then replicate (at + 2) script_line_space else replicate 44 script_line_space) ++ codes "^\n"

-- both, but nothing of an empty line
abbrev pub excerpt_text : List ℕ → ℕ → List ℕ
excerpt_text [] at = []
excerpt_text (b ∷ bs) at = excerpt_shown_text (b ∷ bs) at ++ excerpt_caret_text at

-- a line's number and a byte's, as they stand behind a file's name
abbrev pub excerpt_place_text : ℕ → ℕ → List ℕ
excerpt_place_text line byte = codes ":" ++ (decimal line ++ (codes ":" ++ (decimal byte ++ codes "\n")))

-- where it is, what is shown of the script's line of this number with a caret under that byte, and what is said of it
pub record IsHintExcerpt (script : List ℕ) (number : ℕ) (text : List ℕ) : Type 0 where
  pub at : ℕ
  pub within : at ≤ length (excerpt_line_at script number)
  pub source : List ℕ
  pub advice : List ℕ
  pub text_is : text ≡ source ++ (excerpt_place_text number (at + 1) ++ (excerpt_text (excerpt_line_at script number) at ++ advice))
