-- The item at a place after a write to a place, and lists that agree at every place.
use Rattle.std.proofs.Common.{ℕ, zero, suc, ◌≡◌, ◌≢◌, ◌<◌, List, [], ◌∷◌, Some, slice_get, slice_set, slice_index, length, replicate, arith, refl, sym, ap}
use Rattle.std.proofs.lemmas.Option.{same_Some, none-some}

-- a write within the list is found where it was written
pub slice_get-set_same : {A : Type 0} (xs : List A) (i : ℕ) (v : A) → i < length xs
    → slice_get (slice_set xs i v) i ≡ Some v
slice_get-set_same [] i v h = absurd (omega arith)
slice_get-set_same (x ∷ xs) zero v h = refl
slice_get-set_same (x ∷ xs) (suc i) v h = slice_get-set_same xs i v (omega arith)

-- what is found where v was written is v
pub slice_get-set_found : {A : Type 0} (xs : List A) (i : ℕ) (v w : A) → slice_get (slice_set xs i v) i ≡ Some w
    → v ≡ w
slice_get-set_found [] i v w h = absurd (none-some w h)
slice_get-set_found (x ∷ xs) zero v w h = same_Some v w h
slice_get-set_found (x ∷ xs) (suc i) v w h = slice_get-set_found xs i v w h

-- a write leaves the other places
pub slice_get-set_other : {A : Type 0} (xs : List A) (i k : ℕ) (v : A) → k ≢ i
    → slice_get (slice_set xs i v) k ≡ slice_get xs k
slice_get-set_other [] i k v h = refl
slice_get-set_other (x ∷ xs) zero zero v h = absurd (h refl)
slice_get-set_other (x ∷ xs) zero (suc k) v h = refl
slice_get-set_other (x ∷ xs) (suc i) zero v h = refl
slice_get-set_other (x ∷ xs) (suc i) (suc k) v h = slice_get-set_other xs i k v (λ e. h (ap suc e))

-- lists that agree at every place are the same
pub slice_sets_same : {A : Type 0} (xs ys : List A) → ((k : ℕ) → slice_get xs k ≡ slice_get ys k) → xs ≡ ys
slice_sets_same [] [] h = refl
slice_sets_same [] (y ∷ ys) h = absurd (none-some y (h 0))
slice_sets_same (x ∷ xs) [] h = absurd (none-some x (sym (h 0)))
slice_sets_same (x ∷ xs) (y ∷ ys) h =
    let e : x ≡ y = same_Some x y (h 0) in
    let f : xs ≡ ys = slice_sets_same xs ys (λ k. h (suc k)) in
    cc

-- what is found in a list of one item over and over is that item
pub slice_get-replicate_found : {A : Type 0} (n : ℕ) (a b : A) (k : ℕ) → slice_get (replicate n a) k ≡ Some b → a ≡ b
slice_get-replicate_found zero a b k h = absurd (none-some b h)
slice_get-replicate_found (suc n) a b zero h = same_Some a b h
slice_get-replicate_found (suc n) a b (suc k) h = slice_get-replicate_found n a b k h

-- each place of such a list has it
pub slice_get-replicate : {A : Type 0} (n : ℕ) (a : A) (k : ℕ) → k < n → slice_get (replicate n a) k ≡ Some a
slice_get-replicate zero a k h = absurd (omega arith)
slice_get-replicate (suc n) a zero h = refl
slice_get-replicate (suc n) a (suc k) h = slice_get-replicate n a k (omega arith)

-- zeros are zeros, past their end too
pub index-zeros : (n q : ℕ) → slice_index (replicate n 0) q ≡ 0
index-zeros zero q = refl
index-zeros (suc n) zero = refl
index-zeros (suc n) (suc q) = index-zeros n q
