-- The item that a loop has reached.
use Rattle.std.proofs.Common.{ℕ, suc, ◌≡◌, ◌<◌, ◌+◌, List, [], ◌∷◌, ◌++◌, Some, length, get_or, slice_get, take, drop, sym, ap, ◌∙◌, add-one}
use Rattle.std.proofs.Math.Seq.{drop-cons}
use Rattle.std.proofs.lemmas.List.{take_more}
use Rattle.std.proofs.lemmas.Option.{same_Some, slice_get-get_or}

module _ {A : Type 0} (xs : List A) (k : ℕ) (x : A) (within : k < length xs) (is : x ≡ get_or xs k x) where
  pub loop_item_at : slice_get xs k ≡ Some x
  loop_item_at = slice_get-get_or xs k x within ∙ ap (λ (y : A). Some y) (sym is)

  pub loop_item_taken : take (k + 1) xs ≡ take k xs ++ x ∷ []
  loop_item_taken = take_more xs k x within ∙ ap (λ (y : A). take k xs ++ y ∷ []) (sym is)

  pub loop_item_dropped : drop k xs ≡ x ∷ drop (k + 1) xs
  loop_item_dropped =
      drop-cons xs k x within ∙ ap (λ (y : A). y ∷ drop (suc k) xs) (sym is)
      ∙ ap (λ (n : ℕ). x ∷ drop n xs) (sym (add-one k))

module _ {A : Type 0} (xs : List A) (k : ℕ) (x : A) (within : k < length xs) (at : slice_get xs k ≡ Some x) where
  loop_item_same : x ≡ get_or xs k x
  loop_item_same = same_Some x (get_or xs k x) (sym at ∙ slice_get-get_or xs k x within)

  pub loop_item_found_taken : take (k + 1) xs ≡ take k xs ++ x ∷ []
  loop_item_found_taken = loop_item_taken xs k x within loop_item_same

  pub loop_item_found_dropped : drop k xs ≡ x ∷ drop (k + 1) xs
  loop_item_found_dropped = loop_item_dropped xs k x within loop_item_same
