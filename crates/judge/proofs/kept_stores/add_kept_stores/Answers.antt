use Rattle.std.proofs.Common.{◌≡◌, ℕ, ◌+◌, ◌≤◌, ◌⊎◌, inl, inr, ◌↔◌, List, [], ◌∷◌, ◌++◌, Some, length, slice_get, slice_index_or, subst, sym, ap, ◌∙◌, arith}
use Rattle.std.proofs.lemmas.Bool.{cases_eq}
use Rattle.std.proofs.lemmas.Option.{same_Some, slice_get-get_or, slice_get_within}
use Rattle.base.specs.InOrderOnce.{Has}
use Rattle.base.proofs.SlicesAndCounts.{slice_push_cases, slice_get-append_left, slice_get-last}
use Rattle.judge.specs.declared.flat_memory.FlatStore.{FlatStore}
use Rattle.judge.specs.declared.kept_store.KeptStore.{KeptStore}
use Rattle.judge.specs.KeptInPasts.{IsUnknownWithin}
use Rattle.judge.proofs.kept_stores.add_kept_stores.Goals as goal

abbrev IsAdded : List FlatStore → List FlatStore → List KeptStore → ℕ → ℕ → ℕ → Type 0
IsAdded now old stores from to by = (x : FlatStore) → Has now x ↔ (Has old x ⊎ IsUnknownWithin stores from to by x)

abbrev told : ℕ → KeptStore → FlatStore
told by s = record { by = by; place = s.place; value = s.value }

-- one store more
added_next : (now old : List FlatStore) (stores : List KeptStore) (from n by : ℕ) (s : KeptStore) → from ≤ n
    → slice_get stores n ≡ Some s
    → IsAdded now old stores from n by → IsAdded (now ++ told by s ∷ []) old stores from (n + 1) by
added_next now old stores from n by s le at before x = (there, back)
  where
    longer : IsUnknownWithin stores from n by x → IsUnknownWithin stores from (n + 1) by x
    longer y = record {
      index = y.index;
      store = y.store;
      from_on = y.from_on;
      below = (let b = y.below in omega arith);
      at = y.at;
      is = y.is;
    }

    there : Has (now ++ told by s ∷ []) x → Has old x ⊎ IsUnknownWithin stores from (n + 1) by x
    there h = elim (slice_push_cases now (told by s) h.0 x h.1) [
      | inl first ↦ elim ((before x).0 (h.0, first.1)) [ inl was ↦ inl was | inr y ↦ inr (longer y) ]
      | inr last ↦ inr (record {
        index = n;
        store = s;
        from_on = le;
        below = omega arith;
        at = at;
        is = sym last.1;
      })
    ]

    kept : Has now x → Has (now ++ told by s ∷ []) x
    kept h = (h.0, slice_get-append_left now (told by s ∷ []) h.0 (slice_get_within now h.0 x h.1) ∙ h.1)

    back : Has old x ⊎ IsUnknownWithin stores from (n + 1) by x → Has (now ++ told by s ∷ []) x
    back (inl was) = kept ((before x).1 (inl was))
    back (inr y) = elim (cases_eq y.index n) [
      | inl same ↦
          (let one : s ≡ y.store = same_Some s y.store (sym at ∙ subst (λ m. slice_get stores m ≡ Some y.store) same y.at) in
          let is : told by s ≡ x = ap (told by) one ∙ sym y.is in
          (length now, slice_get-last now (told by s) ∙ ap (λ z. Some z) is))
      | inr isnt ↦ kept ((before x).1 (inr (record {
        index = y.index;
        store = y.store;
        from_on = y.from_on;
        below = (let b = y.below in omega arith);
        at = y.at;
        is = y.is;
      })))
    ]

pub loop-index-init : goal.loop-index-init
loop-index-init c = λ x. (
  λ h. inl h,
  λ h. elim h [ inl was ↦ was | inr y ↦ (let a = y.from_on in let b = y.below in absurd (omega arith)) ],
)

pub loop-index-preserved : goal.loop-index-preserved
loop-index-preserved c =
    let stores = c.args.stores.now in
    let index = c.loop-index.index in
    let d : KeptStore = record { place = 0; value = 0; cut = 0 } in
    subst (λ xs. IsAdded xs c.args.found.now.items stores c.args.from (index + 1) c.args.by) (sym c.in_ok-push.ensures.items)
    (added_next c.loop-index.found.items c.args.found.now.items stores c.args.from index c.args.by (slice_index_or stores index d)
    c.loop-index.auto.index (slice_get-get_or stores index d c.loop-index-test.true) c.loop-index.invariant)

pub returns : goal.returns
returns c = λ x.
    let over = c.loop-index-test.false in
    let end = c.loop-index.auto.index-end in
    let is : c.loop-index.index ≡ length c.args.stores.now = omega (arith, c.requires) in
    subst (λ n. Has c.loop-index.found.items x ↔ (Has c.args.found.now.items x ⊎ IsUnknownWithin c.args.stores.now c.args.from n c.args.by x)) is
    (c.loop-index.invariant x)
