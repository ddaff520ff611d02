-- What is read of a vector's items, and what they are after all of them were lent as a slice.
use Rattle.std.proofs.Common.{zero, suc, ◌≡◌, ℕ, ◌<◌, List, [], ◌∷◌, ◌++◌, length, take, slice_index_or, refl, ap, arith}
use Rattle.std.proofs.lemmas.Option.{get_or_from_slice_get, slice_get_read}

-- what is read is what stands there, whatever is said to stand past the end
pub vec_item_read : {A : Type 0} (xs : List A) (i : ℕ) (x d : A) → i < length xs → x ≡ slice_index_or xs i x → slice_index_or xs i d ≡ x
vec_item_read xs i x d lt is = get_or_from_slice_get xs i x d (slice_get_read xs (length xs) i x refl lt is)

-- a slice that is as long as it was is all of the items
pub vec_items_written : {A : Type 0} (new rest : List A) (n : ℕ) → length new ≡ n → take n (new ++ rest) ≡ new
vec_items_written [] rest zero is = refl
vec_items_written [] rest (suc n) is = absurd (omega arith)
vec_items_written (x ∷ xs) rest zero is = absurd (omega arith)
vec_items_written (x ∷ xs) rest (suc n) is = ap (λ ys. x ∷ ys) (vec_items_written xs rest n (omega arith))
