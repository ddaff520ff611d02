-- Lists in which nothing stands twice, and how long they can be.
use Rattle.std.proofs.Common.{ℕ, zero, suc, ◌≡◌, ◌≢◌, ◌≤◌, List, [], ◌∷◌, ◌++◌, Some, slice_get, length, arith, refl, sym, ap, ◌∙◌, subst}
use Rattle.std.proofs.lemmas.Option.{same_Some, none-some}
use Rattle.base.specs.InOrderOnce.{Has, IsOnce}
use Rattle.base.proofs.JoinedLists.{joined_list_in_order_tail, joined_list_in_order-append}

-- the list without what stands at place k
once_without : {A : Type 0} → List A → ℕ → List A
once_without [] k = []
once_without (x ∷ xs) zero = xs
once_without (x ∷ xs) (suc k) = x ∷ once_without xs k

length-once_without : {A : Type 0} (xs : List A) (k : ℕ) (x : A) → slice_get xs k ≡ Some x
    → length xs ≡ suc (length (once_without xs k))
unfolding once_without
length-once_without [] k x h = absurd (none-some x h)
length-once_without (y ∷ xs) zero x h = refl
length-once_without (y ∷ xs) (suc k) x h = ap suc (length-once_without xs k x h)

has-once_without : {A : Type 0} (xs : List A) (k m : ℕ) (x y : A) → slice_get xs k ≡ Some x → slice_get xs m ≡ Some y
    → y ≢ x → Has (once_without xs k) y
unfolding once_without
has-once_without [] k m x y h g d = absurd (none-some x h)
has-once_without (z ∷ xs) zero zero x y h g d = absurd (d (same_Some y x (sym g ∙ h)))
has-once_without (z ∷ xs) zero (suc m) x y h g d = (m, g)
has-once_without (z ∷ xs) (suc k) zero x y h g d = (0, g)
has-once_without (z ∷ xs) (suc k) (suc m) x y h g d = let r = has-once_without xs k m x y h g d in (suc r.0, r.1)

-- what has each item once is no longer than a list with all of them
pub once_le : {A : Type 0} (xs ys : List A) → IsOnce xs → ((x : A) → Has xs x → Has ys x) → length xs ≤ length ys
once_le [] ys once all = omega arith
once_le {A} (x ∷ xs) ys once all =
    let here : Has ys x = all x (0, refl) in
    let shorter = length-once_without ys here.0 x here.1 in
    let rest =
    once_le xs (once_without ys here.0) (joined_list_in_order_tail (λ (a b : A). a ≢ b) x xs once) (λ y h. has-once_without ys here.0
    (all y (suc h.0, h.1)).0 x y here.1 (all y (suc h.0, h.1)).1
    (λ e. once 0 (suc h.0) x y (omega arith) refl h.1 (sym e)))
    in
    omega arith

-- two lists with nothing in common
pub once-append : {A : Type 0} (xs ys : List A) → IsOnce xs → IsOnce ys → ((x : A) → Has xs x → ¬ Has ys x)
    → IsOnce (xs ++ ys)
once-append {A} xs ys first second apart =
    joined_list_in_order-append (λ (a b : A). a ≢ b) xs ys first second
    (λ a b here there e. let P : A → Type 0 = Has ys in apart a here (subst P (sym e) there))
