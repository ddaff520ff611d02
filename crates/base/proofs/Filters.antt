-- Filters and searches by tests that agree, or that pass nothing.
use Rattle.std.proofs.Common.{suc, ◌≡◌, Bool, true, false, cond, inl, inr, Some, None, List, [], ◌∷◌, filter, find, refl, sym, ap, ◌∙◌}
use Rattle.std.proofs.lemmas.Bool.{cases_Bool, cond-true, cond-false, both_ways}
use Rattle.base.specs.InOrderOnce.{Has}

-- a test that no item passes picks nothing
pub filter_none : {A : Type 0} (p : A → Bool) (xs : List A) → ((x : A) → Has xs x → p x ≡ false) → filter p xs ≡ []
filter_none p [] none = refl
filter_none p (x ∷ xs) none =
    cond-false (p x) (x ∷ filter p xs) (filter p xs) (none x (0, refl))
    ∙ filter_none p xs (λ y h. none y (suc h.0, h.1))

-- tests that agree on a list's items pick the same of them
pub filter_same : {A : Type 0} (p q : A → Bool) (xs : List A) → ((x : A) → Has xs x → p x ≡ q x)
    → filter p xs ≡ filter q xs
filter_same p q [] same = refl
filter_same {A} p q (x ∷ xs) same =
    let here = same x (0, refl) in
    let rest = filter_same p q xs (λ y h. same y (suc h.0, h.1)) in
    ap (λ (ys : List A). cond (p x) (x ∷ ys) ys) rest ∙ ap (λ (b : Bool). cond b (x ∷ filter q xs) (filter q xs)) here

-- what is picked among what passes is what is picked, where what is picked passes
pub filter_passed : {A : Type 0} (pick passes : A → Bool) (xs : List A) → ((x : A) → pick x ≡ true → passes x ≡ true)
    → filter pick (filter passes xs) ≡ filter pick xs
filter_passed pick passes [] all = refl
filter_passed {A} pick passes (x ∷ xs) all =
    let rest = filter_passed pick passes xs all in
    elim (cases_Bool (passes x)) [
      | inl does ↦ ap (filter pick) (cond-true (passes x) (x ∷ filter passes xs) (filter passes xs) does)
          ∙ ap (λ (ys : List A). cond (pick x) (x ∷ ys) ys) rest
      | inr doesnt ↦
          let out : pick x ≡ false =
          elim (cases_Bool (pick x))
          [ inl is ↦ absurd (both_ways (passes x) doesnt (all x is)) | inr isnt ↦ isnt ] in
          ap (filter pick) (cond-false (passes x) (x ∷ filter passes xs) (filter passes xs) doesnt) ∙ rest
          ∙ sym (cond-false (pick x) (x ∷ filter pick xs) (filter pick xs) out)
    ]

-- a test that no item passes finds nothing
pub filter_find_none : {A : Type 0} (p : A → Bool) (xs : List A) → ((x : A) → Has xs x → p x ≡ false) → find p xs ≡ None
filter_find_none p [] none = refl
filter_find_none p (x ∷ xs) none =
    cond-false (p x) (Some x) (find p xs) (none x (0, refl)) ∙ filter_find_none p xs (λ y h. none y (suc h.0, h.1))
