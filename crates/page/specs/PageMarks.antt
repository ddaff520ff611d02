-- Dirty marks, one a word of a page.
use Rattle.std.specs.Prelude.{ℕ, zero, suc, ◌/◌, ◌%◌, ◌≡◌, ◌≤◌, ◌==◌, Bool, List, [], ◌∷◌}
use Rattle.std.specs.Int.{bit_at}

-- the lowest n bits of a machine word, the lowest first
abbrev pub page_marks_of : ℕ → ℕ → List Bool
page_marks_of zero word = []
page_marks_of (suc n) word = (word % 2 == 1) ∷ page_marks_of n (word / 2)

-- no bit from n on is set
abbrev pub PageMarksBelow : ℕ → ℕ → Type 0
PageMarksBelow n word = (i : ℕ) → n ≤ i → bit_at word i ≡ 0
