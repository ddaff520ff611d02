-- Lists joined end to end: what they have, their order, and that nothing stands in them twice.
use Rattle.std.proofs.Common.{ℕ, zero, suc, ◌+◌, ◌≡◌, ◌≢◌, ◌<◌, ◌⊎◌, ◌↔◌, inl, inr, List, [], ◌∷◌, ◌++◌, Some, slice_get, length, map, flat_map, option_map, sym, subst, arith, refl, ap, ◌∙◌}
use Rattle.std.proofs.lemmas.Bool.{cases_eq}
use Rattle.std.proofs.lemmas.Option.{slice_get-map, slice_get_within, same_Some, none-some}
use Rattle.std.specs.List.{concat}
use Rattle.base.specs.InOrderOnce.{Has, InOrder}
use Rattle.base.proofs.SlicesAndCounts.{slice_get-append_left, slice_get-append_right, slice_append_cases}

-- nothing stands in the empty list
pub joined_list_has-nil : {A : Type 0} (x : A) → ¬ Has {A = A} [] x
joined_list_has-nil x h = none-some x h.1

-- an item of a list with one more in front is that one, or one of the list
pub joined_list_has-cons : {A : Type 0} (y : A) (xs : List A) (x : A) → Has (y ∷ xs) x ↔ ((y ≡ x) ⊎ Has xs x)
joined_list_has-cons {A} y xs x = (λ h. there h.0 h.1, back)
  where
    there : (k : ℕ) → slice_get (y ∷ xs) k ≡ Some x → (y ≡ x) ⊎ Has xs x
    there zero e = inl (same_Some y x e)
    there (suc k) e = inr (k, e)

    back : (y ≡ x) ⊎ Has xs x → Has (y ∷ xs) x
    back (inl e) = (0, ap Some e)
    back (inr h) = (suc h.0, h.1)

-- an item of two lists is one of the first or one of the second
pub joined_list_has-append : {A : Type 0} (xs ys : List A) (x : A) → Has (xs ++ ys) x ↔ (Has xs x ⊎ Has ys x)
joined_list_has-append {A} xs ys x =
    (λ h. elim (slice_append_cases xs ys h.0 x h.1) [ inl a ↦ inl (h.0, a.1) | inr b ↦ inr (b.0, b.2) ], back)
  where
    back : Has xs x ⊎ Has ys x → Has (xs ++ ys) x
    back (inl h) = (h.0, slice_get-append_left xs ys h.0 (slice_get_within xs h.0 x h.1) ∙ h.1)
    back (inr h) = (length xs + h.0, slice_get-append_right xs ys h.0 ∙ h.1)

-- what joined lists have is what one of them has
pub joined_lists_have : (gs : List (List ℕ)) (a : ℕ) → Has (concat gs) a ↔ ((g : List ℕ) × Has gs g × Has g a)
joined_lists_have [] a = (λ h. absurd (joined_list_has-nil a h), λ h. absurd (joined_list_has-nil h.0 h.1))
joined_lists_have (g ∷ gs) a = (
  λ h. there (joined_lists_have gs a).0 ((joined_list_has-append g (concat gs) a).0 h),
  λ h. (joined_list_has-append g (concat gs) a).1
      (back (joined_lists_have gs a).1 h.0 h.2 ((joined_list_has-cons g gs h.0).0 h.1)),
)
  where
    there : (Has (concat gs) a → (f : List ℕ) × Has gs f × Has f a) → Has g a ⊎ Has (concat gs) a
        → (f : List ℕ) × Has (g ∷ gs) f × Has f a
    there ih (inl h) = (g, (0, refl), h)
    there ih (inr h) = let r = ih h in (r.0, (suc r.1.0, r.1.1), r.2)

    back : (((f : List ℕ) × Has gs f × Has f a) → Has (concat gs) a) → (f : List ℕ) → Has f a → (g ≡ f) ⊎ Has gs f
        → Has g a ⊎ Has (concat gs) a
    back ih f h (inl e) = inl (rw (← e) at h)
    back ih f h (inr k) = inr (ih (f, k, h))

-- two lists in order, each item of the first before each of the second
pub joined_list_in_order-append : {A : Type 0} (R : A → A → Type 0) (xs ys : List A) → InOrder R xs → InOrder R ys
    → ((a b : A) → Has xs a → Has ys b → R a b) → InOrder R (xs ++ ys)
joined_list_in_order-append {A} R xs ys first second across x y a b less at_a at_b =
    go (slice_append_cases xs ys x a at_a) (slice_append_cases xs ys y b at_b)
  where
    go : ((x < length xs) × (slice_get xs x ≡ Some a)) ⊎ ((m : ℕ) × (x ≡ length xs + m) × (slice_get ys m ≡ Some a))
        → ((y < length xs) × (slice_get xs y ≡ Some b)) ⊎ ((m : ℕ) × (y ≡ length xs + m) × (slice_get ys m ≡ Some b))
        → R a b
    go (inl p) (inl q) = first x y a b less p.1 q.1
    go (inl p) (inr q) = across a b (x, p.1) (q.0, q.2)
    go (inr p) (inl q) = let e : x ≡ length xs + p.0 = p.1 in let h : y < length xs = q.0 in absurd (omega arith)
    go (inr p) (inr q) =
        let e : x ≡ length xs + p.0 = p.1 in let d : y ≡ length xs + q.0 = q.1 in
        second p.0 q.0 a b (omega arith) p.2 q.2

-- a list in order is so without its first item
pub joined_list_in_order_tail : {A : Type 0} (R : A → A → Type 0) (x : A) (xs : List A) → InOrder R (x ∷ xs) → InOrder R xs
joined_list_in_order_tail R x xs h i k a b less at_a at_b = h (suc i) (suc k) a b (omega arith) at_a at_b

-- an item before all of a list in order
pub joined_list_in_order-cons : {A : Type 0} (R : A → A → Type 0) (x : A) (xs : List A) → ((b : A) → Has xs b → R x b)
    → InOrder R xs → InOrder R (x ∷ xs)
joined_list_in_order-cons R x xs first h i zero a b less at_a at_b = absurd (omega arith)
joined_list_in_order-cons {A} R x xs first h zero (suc k) a b less at_a at_b =
    let P : A → Type 0 = λ c. R c b in subst P (same_Some x a at_a) (first b (k, at_b))
joined_list_in_order-cons R x xs first h (suc i) (suc k) a b less at_a at_b = h i k a b (omega arith) at_a at_b

-- the empty list is in order
pub joined_list_in_order-nil : {A : Type 0} (R : A → A → Type 0) → InOrder R []
joined_list_in_order-nil R i k a b less at_a at_b = absurd (none-some a at_a)

-- joined lists are in order where each is, and each item of one stands before each of a later one
pub joined_lists_in_order : (R : ℕ → ℕ → Type 0) (gs : List (List ℕ)) → ((g : List ℕ) → Has gs g → InOrder R g)
    → InOrder (λ (g h : List ℕ). (a b : ℕ) → Has g a → Has h b → R a b) gs → InOrder R (concat gs)
joined_lists_in_order R [] each across = joined_list_in_order-nil R
joined_lists_in_order R (g ∷ gs) each across =
    joined_list_in_order-append R g (concat gs) (each g (0, refl)) (joined_lists_in_order R gs (λ f h. each f (suc h.0, h.1))
    (joined_list_in_order_tail (λ (f h : List ℕ). (a b : ℕ) → Has f a → Has h b → R a b) g gs across))
    (λ a b here later. let r = (joined_lists_have gs b).0 later in
    across 0 (suc r.1.0) g r.0 (omega arith) refl r.1.1 a b here r.2)

-- a weaker order
pub joined_list_in_weaker_order : {A : Type 0} (R S : A → A → Type 0) (xs : List A)
    → ((a b : A) → Has xs a → Has xs b → R a b → S a b) → InOrder R xs → InOrder S xs
joined_list_in_weaker_order R S xs weaker h i k a b less at_a at_b = weaker a b (i, at_a) (k, at_b) (h i k a b less at_a at_b)

-- what a list has after a function on its items
pub joined_list_has-map : {A B : Type 0} (f : A → B) (xs : List A) (y : B) → Has (map f xs) y ↔ ((x : A) × Has xs x × (f x ≡ y))
joined_list_has-map {A} {B} f xs y =
    (λ h. there xs h.0 h.1, λ h. (h.1.0, slice_get-map f xs h.1.0 ∙ ap (option_map f) h.1.1 ∙ ap Some h.2))
  where
    there : (xs : List A) (k : ℕ) → slice_get (map f xs) k ≡ Some y → (x : A) × Has xs x × (f x ≡ y)
    there [] k e = absurd (none-some y e)
    there (x ∷ xs) zero e = (x, (0, refl), same_Some (f x) y e)
    there (x ∷ xs) (suc k) e = let r = there xs k e in (r.0, (suc r.1.0, r.1.1), r.2)

-- a mapped list is in order where the items are in the mapped order
pub joined_list_in_order-map : {A B : Type 0} (R : B → B → Type 0) (f : A → B) (xs : List A)
    → InOrder (λ (a b : A). R (f a) (f b)) xs → InOrder R (map f xs)
joined_list_in_order-map R f [] h = joined_list_in_order-nil R
joined_list_in_order-map {A} {B} R f (x ∷ xs) h =
    joined_list_in_order-cons R (f x) (map f xs) first (joined_list_in_order-map R f xs (joined_list_in_order_tail (λ (a b : A). R (f a) (f b)) x xs h))
  where
    first : (b : B) → Has (map f xs) b → R (f x) b
    first b m =
        let r = (joined_list_has-map f xs b).0 m in let P : B → Type 0 = R (f x) in
        subst P r.2 (h 0 (suc r.1.0) x r.0 (omega arith) refl r.1.1)

-- a list of one item is in order
pub joined_list_in_order_single : {A : Type 0} (R : A → A → Type 0) (x : A) → InOrder R (x ∷ [])
joined_list_in_order_single R x = joined_list_in_order-cons R x [] (λ b h. absurd (joined_list_has-nil b h)) (joined_list_in_order-nil R)

-- a number stands in a list or not
pub joined_list_has_or_not : (xs : List ℕ) (x : ℕ) → Has xs x ⊎ (Has xs x → ⊥)
joined_list_has_or_not [] x = inr (λ h. joined_list_has-nil x h)
joined_list_has_or_not (y ∷ xs) x = go (cases_eq y x) (joined_list_has_or_not xs x)
  where
    go : (y ≡ x) ⊎ (y ≢ x) → Has xs x ⊎ (Has xs x → ⊥) → Has (y ∷ xs) x ⊎ (Has (y ∷ xs) x → ⊥)
    go (inl e) later = inl (0, ap Some e)
    go (inr d) (inl h) = inl (suc h.0, h.1)
    go (inr d) (inr n) = inr (λ h. elim ((joined_list_has-cons y xs x).0 h) [ inl e ↦ d e | inr m ↦ n m ])

-- what the lists of all items have
pub joined_list_has-flat_map : {A B : Type 0} (f : A → List B) (xs : List A) (y : B)
    → Has (flat_map f xs) y ↔ ((x : A) × Has xs x × Has (f x) y)
joined_list_has-flat_map f [] y = (λ h. absurd (joined_list_has-nil y h), λ h. absurd (joined_list_has-nil h.0 h.1))
joined_list_has-flat_map {A} f (x ∷ xs) y = (
  λ h. there (joined_list_has-flat_map f xs y).0 ((joined_list_has-append (f x) (flat_map f xs) y).0 h),
  λ h.
      (joined_list_has-append (f x) (flat_map f xs) y).1 (back (joined_list_has-flat_map f xs y).1 h.0 h.2 ((joined_list_has-cons x xs h.0).0 h.1)),
)
  where
    there : (Has (flat_map f xs) y → (z : A) × Has xs z × Has (f z) y) → Has (f x) y ⊎ Has (flat_map f xs) y
        → (z : A) × Has (x ∷ xs) z × Has (f z) y
    there ih (inl h) = (x, (0, refl), h)
    there ih (inr h) = let r = ih h in (r.0, (suc r.1.0, r.1.1), r.2)

    back : (((z : A) × Has xs z × Has (f z) y) → Has (flat_map f xs) y) → (z : A) → Has (f z) y → (x ≡ z) ⊎ Has xs z
        → Has (f x) y ⊎ Has (flat_map f xs) y
    back ih z h (inl e) = let P : A → Type 0 = λ a. Has (f a) y in inl (subst P (sym e) h)
    back ih z h (inr m) = inr (ih (z, m, h))

-- they are in order where each is, and each item of one stands before each of a later one
pub joined_list_in_order-flat_map : {A B : Type 0} (R : B → B → Type 0) (f : A → List B) (xs : List A)
    → ((x : A) → Has xs x → InOrder R (f x)) → InOrder (λ (x y : A). (a b : B) → Has (f x) a → Has (f y) b → R a b) xs
    → InOrder R (flat_map f xs)
joined_list_in_order-flat_map R f [] each across = joined_list_in_order-nil R
joined_list_in_order-flat_map {A} {B} R f (x ∷ xs) each across =
    joined_list_in_order-append R (f x) (flat_map f xs) (each x (0, refl)) (joined_list_in_order-flat_map R f xs
    (λ z h. each z (suc h.0, h.1))
    (joined_list_in_order_tail (λ (y z : A). (a b : B) → Has (f y) a → Has (f z) b → R a b) x xs across))
    (λ a b here later. let r = (joined_list_has-flat_map f xs b).0 later in
    across 0 (suc r.1.0) x r.0 (omega arith) refl r.1.1 a b here r.2)
