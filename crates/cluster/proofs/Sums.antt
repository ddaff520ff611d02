-- Sums over the processors.
use Rattle.std.proofs.Common.{ℕ, suc, ◌≡◌, ◌+◌, Some, List, [], ◌∷◌, length, slice_get, slice_set, sum_by, refl, sym, ap₂, subst, ◌∙◌, arith}
use Rattle.std.proofs.lemmas.Option.{slice_get_within, get_or_from_slice_get}
use Rattle.std.proofs.lemmas.List.Sums.{sum_by-cons, sum_by-set}

-- where one item is another then, the sum has the other's part in place of the one's
pub sums_by-set_at : {A : Type 0} (f : A → ℕ) (xs : List A) (p : ℕ) (x y : A) → slice_get xs p ≡ Some x
    → sum_by f (slice_set xs p y) + f x ≡ sum_by f xs + f y
sums_by-set_at {A} f xs p x y at =
    let P : A → Type 0 = λ z. sum_by f (slice_set xs p y) + f z ≡ sum_by f xs + f y in
    subst P (get_or_from_slice_get xs p x x at) (sum_by-set f xs p y x (slice_get_within xs p x at))

-- what is the same place by place has the same sum
pub same_sums : {A B : Type 0} (f : A → ℕ) (g : B → ℕ) (xs : List A) (ys : List B) → length xs ≡ length ys
    → ((p : ℕ) (x : A) (y : B) → slice_get xs p ≡ Some x → slice_get ys p ≡ Some y → f x ≡ g y)
    → sum_by f xs ≡ sum_by g ys
same_sums f g [] [] long each = refl
same_sums f g [] (y ∷ ys) long each = absurd (omega arith)
same_sums f g (x ∷ xs) [] long each = absurd (omega arith)
same_sums f g (x ∷ xs) (y ∷ ys) long each =
    sum_by-cons f x xs
    ∙ ap₂ (λ (a b : ℕ). a + b) (each 0 x y refl refl)
    (same_sums f g xs ys (omega arith) (λ p a b at there. each (suc p) a b at there)) ∙ sym (sum_by-cons g y ys)
