-- What is written to a writer whose bytes are known.
use Rattle.std.specs.Prelude.{ℕ, ◌≡◌, List, ◌++◌, Option, Result, MatchResult}
use Rattle.std.specs.Io.KnownBytes.{Appends}

-- how many bytes are pending at most
abbrev pub most_pending : ℕ
most_pending = 8192

-- how many digits a number of 64 bits has at most
abbrev pub most_digits : ℕ
most_digits = 20

-- how many bytes a line has at most
abbrev pub most_line : ℕ
most_line = 160

-- and what is said in it of what an event did
abbrev pub most_kind : ℕ
most_kind = 100

-- a beginning of the text was appended
abbrev pub WritesThroughFront : Option (List ℕ) → Option (List ℕ) → List ℕ → Type 0
WritesThroughFront old new text = (done rest : List ℕ) × (text ≡ done ++ rest) × Appends old new done

-- the text was appended, or after an error a beginning of it
abbrev pub WritesThroughOrFails : {E : Type 0} → Option (List ℕ) → Option (List ℕ) → List ℕ → Result (Unit {0}) E → Type 0
WritesThroughOrFails old new text result = MatchResult result (λ _. Appends old new text) (λ _. WritesThroughFront old new text)

-- of what was pending and this text some was appended, and the rest is pending now
pub record PassesThrough (old new : Option (List ℕ)) (before after text : List ℕ) : Type 0 where
  pub done : List ℕ
  pub whole : before ++ text ≡ done ++ after
  pub appends : Appends old new done

-- the text went this way, or after an error a beginning of what was pending and the text was appended
abbrev pub WritesThrough : {E : Type 0} → Option (List ℕ) → Option (List ℕ) → List ℕ → List ℕ → List ℕ
    → Result (Unit {0}) E → Type 0
WritesThrough old new before after text result =
    MatchResult result (λ _. PassesThrough old new before after text) (λ _. WritesThroughFront old new (before ++ text))
