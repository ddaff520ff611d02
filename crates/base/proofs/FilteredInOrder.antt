-- What a filter and a function make of a list's items and their order.
use Rattle.std.proofs.Common.{suc, ◌≡◌, ◌↔◌, inl, inr, List, [], ◌∷◌, Bool, true, false, cond, filter, map, Some, arith, refl, sym, ap, ap₂, ◌∙◌, true≢false}
use Rattle.base.specs.InOrderOnce.{Has, InOrder}
use Rattle.base.proofs.JoinedLists.{joined_list_has-nil, joined_list_has-cons, joined_list_in_order-nil, joined_list_in_order-cons, joined_list_in_order_tail}

-- a filter keeps the items that it picks
pub filtered_in_order_has : {A : Type 0} (pick : A → Bool) (xs : List A) (x : A)
    → Has (filter pick xs) x ↔ (Has xs x × (pick x ≡ true))
filtered_in_order_has {A} pick [] x = (λ h. absurd (joined_list_has-nil x h), λ h. absurd (joined_list_has-nil x h.0))
filtered_in_order_has {A} pick (y ∷ xs) x = go (pick y) refl (filtered_in_order_has pick xs x)
  where
    here : pick y ≡ true → Has xs x × (pick x ≡ true) → Has (y ∷ xs) x × (pick x ≡ true)
    here e h = ((suc h.0.0, h.0.1), h.1)

    go : (b : Bool) → pick y ≡ b → (Has (filter pick xs) x ↔ (Has xs x × (pick x ≡ true)))
        → Has (cond b (y ∷ filter pick xs) (filter pick xs)) x ↔ (Has (y ∷ xs) x × (pick x ≡ true))
    go true e ih = (
      λ h. elim ((joined_list_has-cons y (filter pick xs) x).0 h) [
        | inl same ↦ ((0, ap Some same), ap pick (sym same) ∙ e)
        | inr m ↦ (let r = ih.0 m in ((suc r.0.0, r.0.1), r.1))
      ],
      λ h. elim ((joined_list_has-cons y xs x).0 h.0)
          [ inl same ↦ (0, ap Some same) | inr m ↦ (let r = ih.1 (m, h.1) in (suc r.0, r.1)) ],
    )
    go false e ih = (
      λ h. let r = ih.0 h in ((suc r.0.0, r.0.1), r.1),
      λ h. elim ((joined_list_has-cons y xs x).0 h.0)
          [ inl same ↦ absurd (true≢false (sym h.1 ∙ ap pick (sym same) ∙ e)) | inr m ↦ ih.1 (m, h.1) ],
    )

-- a filter keeps the order
pub in_order-filter : {A : Type 0} (R : A → A → Type 0) (pick : A → Bool) (xs : List A) → InOrder R xs
    → InOrder R (filter pick xs)
in_order-filter R pick [] h = joined_list_in_order-nil R
in_order-filter {A} R pick (y ∷ xs) h = go (pick y) (in_order-filter R pick xs (joined_list_in_order_tail R y xs h))
  where
    first : (b : A) → Has (filter pick xs) b → R y b
    first b m = let r = (filtered_in_order_has pick xs b).0 m in h 0 (suc r.0.0) y b (omega arith) refl r.0.1

    go : (b : Bool) → InOrder R (filter pick xs) → InOrder R (cond b (y ∷ filter pick xs) (filter pick xs))
    go true ih = joined_list_in_order-cons R y (filter pick xs) first ih
    go false ih = ih

-- functions that agree on a list's items
pub in_order_map_same : {A B : Type 0} (f g : A → B) (xs : List A) → ((x : A) → Has xs x → f x ≡ g x) → map f xs ≡ map g xs
in_order_map_same f g [] h = refl
in_order_map_same f g (x ∷ xs) h = ap₂ (λ y ys. y ∷ ys) (h x (0, refl)) (in_order_map_same f g xs (λ y m. h y (suc m.0, m.1)))
