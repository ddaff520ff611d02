-- Lists of which one item changes, or none.
use Rattle.std.proofs.Common.{◌≡◌, ◌≢◌, ℕ, zero, suc, ◌<◌, inl, inr, List, [], ◌∷◌, replicate, Some, slice_get, slice_set, slice_index_or, subst, sym, refl, ap, ◌∙◌}
use Rattle.std.proofs.lemmas.Bool.{cases_eq}
use Rattle.std.proofs.lemmas.List.{length-set, length-replicate}
use Rattle.std.proofs.lemmas.Option.{same_Some, slice_get-get_or}
use Rattle.base.proofs.SliceSets.{slice_get-set_found, slice_get-set_other, slice_get-replicate_found}
use Rattle.book.specs.BookStamps.{EachStampedAt}

-- one item is written, and each other keeps what it has to be
pub each_set : {A : Type 0} (n : ℕ) (R Q : ℕ → A → Type 0) (xs : List A) (i : ℕ) (v : A) → EachStampedAt n R xs
    → ((k : ℕ) (x : A) → k ≢ i → slice_get xs k ≡ Some x → R k x → Q k x) → Q i v → EachStampedAt n Q (slice_set xs i v)
each_set {A} n R Q xs i v all others own = record { long = length-set xs i v ∙ all.long; each = each }
  where
    each : (k : ℕ) (x : A) → slice_get (slice_set xs i v) k ≡ Some x → Q k x
    each k x at = elim (cases_eq k i) [
      | inl is ↦ (let P : ℕ → Type 0 = λ m. slice_get (slice_set xs i v) m ≡ Some x in
          let here = slice_get-set_found xs i v x (subst P is at) in let R : ℕ → Type 0 =
          λ m. Q m x in subst R (sym is) (subst (λ y. Q i y) here own))
      | inr isnt ↦ (let old = sym (slice_get-set_other xs i k v isnt) ∙ at in others k x isnt old (all.each k x old))
    ]

-- nothing is written
pub each_kept : {A : Type 0} (n : ℕ) (R Q : ℕ → A → Type 0) (xs : List A) → EachStampedAt n R xs
    → ((k : ℕ) (x : A) → slice_get xs k ≡ Some x → R k x → Q k x) → EachStampedAt n Q xs
each_kept n R Q xs all on = record { long = all.long; each = λ k x at. on k x at (all.each k x at) }

-- nothing is written, and one item has its own reason
pub each_own : {A : Type 0} (n : ℕ) (R Q : ℕ → A → Type 0) (xs : List A) (i : ℕ) → EachStampedAt n R xs
    → ((k : ℕ) (x : A) → k ≢ i → slice_get xs k ≡ Some x → R k x → Q k x)
    → ((x : A) → slice_get xs i ≡ Some x → R i x → Q i x) → EachStampedAt n Q xs
each_own {A} n R Q xs i all others own = record { long = all.long; each = each }
  where
    each : (k : ℕ) (x : A) → slice_get xs k ≡ Some x → Q k x
    each k x at = elim (cases_eq k i) [
      | inl is ↦ (let P : ℕ → Type 0 = λ m. slice_get xs m ≡ Some x → Q m x in
          subst P (sym is) (λ h. own x h (all.each i x h)) at)
      | inr isnt ↦ others k x isnt at (all.each k x at)
    ]

-- a list of one item over and over
pub each_replicate : {A : Type 0} (n : ℕ) (Q : ℕ → A → Type 0) (v : A) → ((k : ℕ) → Q k v) → EachStampedAt n Q (replicate n v)
each_replicate {A} n Q v all =
    record {
      long = length-replicate {A = A} n v;
      each = λ k x at. subst (λ y. Q k y) (slice_get-replicate_found n v x k at) (all k);
    }

-- the item at a place within the list
pub each_item_at : {A : Type 0} (n : ℕ) (R : ℕ → A → Type 0) (xs : List A) (i : ℕ) (d : A) → EachStampedAt n R xs → i < n
    → slice_get xs i ≡ Some (slice_index_or xs i d)
each_item_at n R xs i d all lt = slice_get-get_or xs i d (subst (λ m. i < m) (sym all.long) lt)

pub each_is_at : {A : Type 0} (n : ℕ) (R : ℕ → A → Type 0) (xs : List A) (i : ℕ) (d : A) → EachStampedAt n R xs → i < n
    → R i (slice_index_or xs i d)
each_is_at n R xs i d all lt = all.each i (slice_index_or xs i d) (each_item_at n R xs i d all lt)

-- what is there already is written without a change
pub each_set_back : {A : Type 0} (xs : List A) (i : ℕ) (v : A) → slice_get xs i ≡ Some v → slice_set xs i v ≡ xs
each_set_back [] i v at = refl
each_set_back {A} (x ∷ xs) zero v at = ap (λ (y : A). y ∷ xs) (sym (same_Some x v at))
each_set_back {A} (x ∷ xs) (suc i) v at = ap (λ (ys : List A). x ∷ ys) (each_set_back xs i v at)
