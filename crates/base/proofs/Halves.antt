-- A list of numbers that reaches a number once: what it has below, and then what it has from there on.
use Rattle.std.proofs.Common.{ℕ, zero, suc, ◌≡◌, ◌+◌, ◌-◌, ◌<◌, ◌≤◌, inl, inr, List, [], ◌∷◌, ◌++◌, Some, slice_get, map, refl, ap, ap₂, arith}
use Rattle.std.proofs.lemmas.Bool.{cases_lt}
use Rattle.std.proofs.lemmas.Option.{none-some, same_Some}
use Rattle.base.specs.InOrderOnce.{Has, InOrder}

-- numbers below n, and then numbers from n on, told by how far they are past it
pub record Halves (n : ℕ) (xs : List ℕ) : Type 0 where
  pub low : List ℕ
  pub high : List ℕ
  pub are : xs ≡ low ++ map (λ m. n + m) high
  pub below : (i : ℕ) → Has low i → i < n

halves_past : (n : ℕ) (xs : List ℕ) → ((i : ℕ) → Has xs i → n ≤ i) → xs ≡ map (λ m. n + m) (map (λ i. i - n) xs)
halves_past n [] h = refl
halves_past n (x ∷ xs) h =
    let le = h x (0, refl) in
    let is : x ≡ n + (x - n) = omega arith in
    ap₂ (λ (y : ℕ) (ys : List ℕ). y ∷ ys) is (halves_past n xs (λ i a. h i (suc a.0, a.1)))

-- where each number from n on is followed by such numbers alone, the list has two halves
pub halves : (n : ℕ) (xs : List ℕ) → InOrder (λ x y. n ≤ x → n ≤ y) xs → Halves n xs
halves n [] h = record { low = []; high = []; are = refl; below = λ i a. absurd (none-some i a.1) }
halves n (x ∷ xs) h =
    elim (cases_lt x n) [
      | inl lt ↦ longer lt
          (halves n xs (λ k m a b lt_k at to. h (suc k) (suc m) a b (omega arith) at to))
      | inr le ↦ record {
        low = [];
        high = map (λ i. i - n) (x ∷ xs);
        are = halves_past n (x ∷ xs) (all le);
        below = λ i a. absurd (none-some i a.1);
      }
    ]
  where
    all : n ≤ x → (i : ℕ) → Has (x ∷ xs) i → n ≤ i
    all le i a = at a.0 a.1
      where
        at : (k : ℕ) → slice_get (x ∷ xs) k ≡ Some i → n ≤ i
        at zero is = let e = same_Some x i is in omega arith
        at (suc k) is = h 0 (suc k) x i (omega arith) refl is le

    longer : x < n → Halves n xs → Halves n (x ∷ xs)
    longer lt r =
        record { low = x ∷ r.low; high = r.high; are = ap (λ ys. x ∷ ys) r.are; below = λ i a. below_first i a.0 a.1 }
      where
        below_first : (i k : ℕ) → slice_get (x ∷ r.low) k ≡ Some i → i < n
        below_first i zero is = let e = same_Some x i is in omega arith
        below_first i (suc k) is = r.below i (k, is)
