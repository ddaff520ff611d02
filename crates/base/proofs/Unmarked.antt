-- Pages of which no word is marked, and their harvests.
use Rattle.std.proofs.Common.{ℕ, suc, ◌≡◌, List, [], ◌∷◌, Bool, true, false, length, replicate, ap, refl, arith}
use Rattle.base.specs.AppliedRecords.{harvest}

-- where no word is marked, nothing is harvested
pub unmarked_harvests_nothing : (i : ℕ) (words : List ℕ) → harvest i words (replicate (length words) false) ≡ []
unmarked_harvests_nothing i [] = refl
unmarked_harvests_nothing i (w ∷ words) = unmarked_harvests_nothing (suc i) words

-- and where nothing is harvested, no word is marked
pub unmarked_harvest : (i : ℕ) (words : List ℕ) (marks : List Bool) → length marks ≡ length words
    → harvest i words marks ≡ []
    → marks ≡ replicate (length words) false
unmarked_harvest i [] [] long none = refl
unmarked_harvest i [] (m ∷ marks) long none = absurd (omega arith)
unmarked_harvest i (w ∷ words) [] long none = absurd (omega arith)
unmarked_harvest i (w ∷ words) (true ∷ marks) long none = absurd cc
unmarked_harvest i (w ∷ words) (false ∷ marks) long none =
    ap (λ (ms : List Bool). false ∷ ms) (unmarked_harvest (suc i) words marks (omega arith) none)
