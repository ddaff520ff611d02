-- Counts of values: that there is one, and counts of what is put together.
use Rattle.std.proofs.Common.{ℕ, ◌≡◌, ◌≢◌, ◌+◌, ◌<◌, ◌≤◌, ◌⊎◌, ◌↔◌, inl, inr, List, [], ◌∷◌, ◌++◌, Some, length, map, refl, sym, ap, ◌∙◌, subst, arith, length-append}
use Rattle.std.proofs.lemmas.List.{length-map}
use Rattle.std.proofs.lemmas.Option.{slice_get_within}
use Rattle.journal.specs.PageImages.{HasPageImageCount}
use Rattle.base.specs.InOrderOnce.{Has}
use Rattle.base.proofs.OnceWithout.{once_le, once-append}
use Rattle.base.proofs.JoinedLists.{joined_list_has-nil, joined_list_has-cons, joined_list_has-append, joined_list_in_order_single, joined_list_has-map, joined_list_in_order-map, joined_list_in_weaker_order, joined_list_in_order-nil}

value_count_le : {A : Type 0} (P : A → Type 0) (a b : ℕ) → HasPageImageCount P a → HasPageImageCount P b → a ≤ b
value_count_le P a b x y =
    let le = once_le x.list y.list x.once (λ z h. (y.each z).1 ((x.each z).0 h)) in
    let first = x.length_is in
    let second = y.length_is in
    omega arith

-- values have one count
pub value_count_unique : {A : Type 0} (P : A → Type 0) (a b : ℕ) → HasPageImageCount P a → HasPageImageCount P b → a ≡ b
value_count_unique P a b x y = let le = value_count_le P a b x y in let ge = value_count_le P b a y x in omega arith

-- no value
pub value_count_none : {A : Type 0} (P : A → Type 0) → ((x : A) → ¬ P x) → HasPageImageCount P 0
value_count_none {A} P none =
    record {
      list = [];
      each = λ x. (λ h. absurd (joined_list_has-nil x h), λ v. absurd (none x v));
      once = joined_list_in_order-nil (λ (a b : A). a ≢ b);
      length_is = refl;
    }

-- values that are some or others, but not both
pub value_count_joined : {A : Type 0} (P Q R : A → Type 0) (a b : ℕ) → ((x : A) → P x → Q x → ⊥)
    → ((x : A) → R x ↔ (P x ⊎ Q x)) → HasPageImageCount P a → HasPageImageCount Q b → HasPageImageCount R (a + b)
value_count_joined P Q R a b apart is x y = record {
  list = x.list ++ y.list;
  each = λ z. (
    λ h. (is z).1 (elim ((joined_list_has-append x.list y.list z).0 h) [
      | inl l ↦ inl ((x.each z).0 l)
      | inr r ↦ inr ((y.each z).0 r)
    ]),
    λ v. (joined_list_has-append x.list y.list z).1 (elim ((is z).0 v) [
      | inl l ↦ inl ((x.each z).1 l)
      | inr r ↦ inr ((y.each z).1 r)
    ]),
  );
  once =
      once-append x.list y.list x.once y.once (λ z h g. apart z ((x.each z).0 h) ((y.each z).0 g));
  length_is =
      (let long = length-append x.list y.list in
      let first = x.length_is in
      let second = y.length_is in
      omega arith);
}

-- values that a function makes of others, each of another one
pub value_count_map : {A B : Type 0} (P : A → Type 0) (Q : B → Type 0) (f : A → B) (c : ℕ)
    → ((a b : A) → f a ≡ f b → a ≡ b) → ((a : A) → P a → Q (f a)) → ((y : B) → Q y → (a : A) × P a × (f a ≡ y))
    → HasPageImageCount P c → HasPageImageCount Q c
value_count_map {A} {B} P Q f c apart to from x = record {
  list = map f x.list;
  each = λ y. (there y, back y);
  once =
      joined_list_in_order-map (λ (a b : B). a ≢ b) f x.list
      (joined_list_in_weaker_order (λ (a b : A). a ≢ b) (λ (a b : A). f a ≢ f b) x.list (λ a b h g isnt is. isnt (apart a b is))
      x.once);
  length_is = length-map x.list f ∙ x.length_is;
}
  where
    there : (y : B) → Has (map f x.list) y → Q y
    there y h = let m = (joined_list_has-map f x.list y).0 h in subst Q m.2 (to m.0 ((x.each m.0).0 m.1))

    back : (y : B) → Q y → Has (map f x.list) y
    back y h = let r = from y h in (joined_list_has-map f x.list y).1 (r.0, (x.each r.0).1 r.1, r.2)

-- there is a value where their count is not 0
pub value_count_some : {A : Type 0} (P : A → Type 0) (c : ℕ) → HasPageImageCount P c → 0 < c → (x : A) × P x
value_count_some {A} P c x some = go x.list refl
  where
    go : (xs : List A) → x.list ≡ xs → (y : A) × P y
    go [] is = let long = x.length_is in let none = ap (λ (ys : List A). length ys) is in absurd (omega arith)
    go (y ∷ ys) is = (y, (x.each y).0 (subst (λ (zs : List A). Has zs y) (sym is) (0, refl)))

-- and none where it is
pub value_count_zero : {A : Type 0} (P : A → Type 0) (x : A) → HasPageImageCount P 0 → ¬ P x
value_count_zero {A} P x c h =
    let at = (c.each x).1 h in
    let within = slice_get_within c.list at.0 x at.1 in
    let long = c.length_is in
    omega arith

-- a value that there is counts 1
pub value_count_one : {A : Type 0} (P : A → Type 0) (x : A) → P x → ((y : A) → P y → x ≡ y) → HasPageImageCount P 1
value_count_one {A} P x h only = record {
  list = x ∷ [];
  each = λ y. (
    λ g. elim ((joined_list_has-cons x [] y).0 g) [ inl is ↦ subst P is h | inr none ↦ absurd (joined_list_has-nil y none) ],
    λ g. (0, ap Some (only y g)),
  );
  once = joined_list_in_order_single (λ (a b : A). a ≢ b) x;
  length_is = refl;
}
