-- What happens to the entries of cuts.
use Rattle.std.specs.Prelude.{ℕ, ◌≡◌, ◌≢◌, max}

-- of these entries, those of cut n have joined this cut, and the others are as before
pub record CutEntriesJoinedAt (old new : ℕ → ℕ → ℕ) (n : ℕ) (cut : ℕ → ℕ) : Type 0 where
  pub joined : (q : ℕ) → new n q ≡ max (old n q) (cut q)
  pub same : (m q : ℕ) → m ≢ n → new m q ≡ old m q

-- of these entries, p's one in cut n is this limit, and the others are as before
pub record CutEntriesMarkedAt (old new : ℕ → ℕ → ℕ) (n p limit : ℕ) : Type 0 where
  pub own : new n p ≡ limit
  pub others : (q : ℕ) → q ≢ p → new n q ≡ old n q
  pub same : (m q : ℕ) → m ≢ n → new m q ≡ old m q
