-- Lists read by `slice_get`: what stands where after a write, a push and a map.
use Rattle.std.proofs.Common.{◌≡◌, ◌≢◌, ℕ, zero, suc, ◌<◌, ◌⊎◌, List, [], ◌∷◌, ◌++◌, map, length, set, replicate, refl, sym, ap, ◌∙◌, Some, slice_get, inl, inr, ⊎_elim, arith}
use mathlib.Core.Option.{some, some-injective, some-ne-none}
use lib.ListN.{get_elem?}
use Rattle.std.proofs.lemmas.Option.{same_Some, none-some}

module _ {A : Type 0} where
  -- what the table below says of a place, in std's words
  pub list_item_got : (l : List A) (j : ℕ) (a : A) → get_elem? l j ≡ some a → slice_get l j ≡ Some a
  list_item_got [] j a e = absurd (some-ne-none a (sym e))
  list_item_got (x ∷ xs) zero a e = ap Some (some-injective x a e)
  list_item_got (x ∷ xs) (suc j) a e = list_item_got xs j a e

  -- what stands in a list after a write
  pub list_item_of_set : (l : List A) (i j : ℕ) (a b : A) → slice_get (set l i a) j ≡ Some b
      → ((j ≡ i) × (a ≡ b)) ⊎ ((j ≢ i) × (slice_get l j ≡ Some b))
  list_item_of_set [] i j a b e = absurd (none-some b e)
  list_item_of_set (x ∷ xs) zero zero a b e = inl (refl, same_Some a b e)
  list_item_of_set (x ∷ xs) zero (suc j) a b e = inr ((λ h. omega arith), e)
  list_item_of_set (x ∷ xs) (suc i) zero a b e = inr ((λ h. omega arith), e)
  list_item_of_set (x ∷ xs) (suc i) (suc j) a b e =
      ⊎_elim (λ (t : (j ≡ i) × (a ≡ b)). inl (ap suc t.0, t.1))
      (λ (t : (j ≢ i) × (slice_get xs j ≡ Some b)). let n = t.0 in inr ((λ h. n (omega arith)), t.1))
      (list_item_of_set xs i j a b e)

  pub list_item_set_here : (l : List A) (i : ℕ) (a : A) → i < length l → slice_get (set l i a) i ≡ Some a
  list_item_set_here [] i a h = absurd (omega arith)
  list_item_set_here (x ∷ xs) zero a h = refl
  list_item_set_here (x ∷ xs) (suc i) a h = list_item_set_here xs i a (omega arith)

  pub list_item_set_else : (l : List A) (i j : ℕ) (a : A) → j ≢ i → slice_get (set l i a) j ≡ slice_get l j
  list_item_set_else [] i j a n = refl
  list_item_set_else (x ∷ xs) zero zero a n = absurd (n refl)
  list_item_set_else (x ∷ xs) zero (suc j) a n = refl
  list_item_set_else (x ∷ xs) (suc i) zero a n = refl
  list_item_set_else (x ∷ xs) (suc i) (suc j) a n = list_item_set_else xs i j a (λ e. n (ap suc e))

  -- a write of what stands there already
  pub list_item_set_again : (l : List A) (i : ℕ) (a : A) → slice_get l i ≡ Some a → set l i a ≡ l
  list_item_set_again [] i a e = absurd (none-some a e)
  list_item_set_again (x ∷ xs) zero a e = ap (λ (y : A). y ∷ xs) (sym (same_Some x a e))
  list_item_set_again (x ∷ xs) (suc i) a e = ap (λ (ys : List A). x ∷ ys) (list_item_set_again xs i a e)

  pub list_item_of_longer : (l m : List A) (i : ℕ) (a : A) → slice_get l i ≡ Some a → slice_get (l ++ m) i ≡ Some a
  list_item_of_longer [] m i a e = absurd (none-some a e)
  list_item_of_longer (x ∷ xs) m zero a e = e
  list_item_of_longer (x ∷ xs) m (suc i) a e = list_item_of_longer xs m i a e

  pub list_item_last : (l : List A) (a : A) (n : ℕ) → length l ≡ n → slice_get (l ++ a ∷ []) n ≡ Some a
  list_item_last [] a zero e = refl
  list_item_last [] a (suc n) e = absurd (omega arith)
  list_item_last (x ∷ xs) a zero e = absurd (omega arith)
  list_item_last (x ∷ xs) a (suc n) e = list_item_last xs a n (omega arith)

  -- what stands in a list that is one longer
  pub list_item_at_end : (l : List A) (a b : A) (j : ℕ) → slice_get (l ++ a ∷ []) j ≡ Some b
      → (slice_get l j ≡ Some b) ⊎ ((j ≡ length l) × (a ≡ b))
  list_item_at_end [] a b zero e = inr (refl, same_Some a b e)
  list_item_at_end [] a b (suc j) e = absurd (none-some b e)
  list_item_at_end (x ∷ xs) a b zero e = inl e
  list_item_at_end (x ∷ xs) a b (suc j) e = ⊎_elim inl (λ (t : (j ≡ length xs) × (a ≡ b)). inr (ap suc t.0, t.1))
      (list_item_at_end xs a b j e)

  -- two elements at one place are one
  pub list_item_once : (l : List A) (j : ℕ) (a b : A) → slice_get l j ≡ Some a → slice_get l j ≡ Some b → a ≡ b
  list_item_once l j a b d e = same_Some a b (sym d ∙ e)

  -- lists of one length that agree at each place are one
  pub same_list_items : (l m : List A) → length l ≡ length m
      → ((j : ℕ) (a : A) → slice_get m j ≡ Some a → slice_get l j ≡ Some a) → l ≡ m
  same_list_items [] [] n h = refl
  same_list_items [] (y ∷ ys) n h = absurd (omega arith)
  same_list_items (x ∷ xs) [] n h = absurd (omega arith)
  same_list_items (x ∷ xs) (y ∷ ys) n h =
      let e : x ≡ y = same_Some x y (h zero y refl) in
      let t : xs ≡ ys = same_list_items xs ys (omega arith) (λ j a. h (suc j) a) in
      cc

  -- what stands in a list of one element over and over
  pub list_item_of_replicate : (n : ℕ) (a b : A) (k : ℕ) → slice_get (replicate n a) k ≡ Some b → a ≡ b
  list_item_of_replicate zero a b k e = absurd (none-some b e)
  list_item_of_replicate (suc n) a b zero e = same_Some a b e
  list_item_of_replicate (suc n) a b (suc k) e = list_item_of_replicate n a b k e

module _ {A B : Type 0} where
  pub list_item_of_map : (f : A → B) (l : List A) (i : ℕ) (a : A) → slice_get l i ≡ Some a → slice_get (map f l) i ≡ Some (f a)
  list_item_of_map f [] i a e = absurd (none-some a e)
  list_item_of_map f (x ∷ xs) zero a e = ap (λ (y : A). Some (f y)) (same_Some x a e)
  list_item_of_map f (x ∷ xs) (suc i) a e = list_item_of_map f xs i a e

  -- what stands in a list of images is an image
  pub list_item_of_unmap : (f : A → B) (l : List A) (k : ℕ) (b : B) → slice_get (map f l) k ≡ Some b
      → (a : A) × (slice_get l k ≡ Some a) × (f a ≡ b)
  list_item_of_unmap f [] k b e = absurd (none-some b e)
  list_item_of_unmap f (x ∷ xs) zero b e = (x, refl, same_Some (f x) b e)
  list_item_of_unmap f (x ∷ xs) (suc k) b e = list_item_of_unmap f xs k b e

  pub list_item_map_replicate : (f : A → B) (n : ℕ) (a : A) → map f (replicate n a) ≡ replicate n (f a)
  list_item_map_replicate f zero a = refl
  list_item_map_replicate f (suc n) a = ap (λ t. f a ∷ t) (list_item_map_replicate f n a)

-- an image of images
pub list_item_map_twice : {A B C : Type 0} (g : B → C) (f : A → B) (l : List A) → map g (map f l) ≡ map (λ a. g (f a)) l
list_item_map_twice g f [] = refl
list_item_map_twice g f (x ∷ xs) = ap (λ t. g (f x) ∷ t) (list_item_map_twice g f xs)
