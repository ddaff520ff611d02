-- The latest stores of a past, processor by processor.
use Rattle.std.proofs.Common.{◌≡◌, ℕ, ◌+◌, ◌<◌, inl, inr, ◌↔◌, List, [], ◌∷◌, ◌++◌, length, Some, subst, sym, refl, ap, ◌∙◌, arith}
use Rattle.std.proofs.lemmas.Bool.{cases_eq}
use Rattle.std.proofs.lemmas.Option.{slice_get_within}
use Rattle.base.specs.InOrderOnce.{Has, InOrder}
use Rattle.base.proofs.SlicesAndCounts.{slice_push_cases, slice_get-append_left, slice_get-last}
use Rattle.journal.specs.declared.event.Event.{Event}
use Rattle.journal.specs.declared.event.Kind.TheVariants.{Store}
use Rattle.journal.specs.WellFormed.{Does}
use Rattle.judge.specs.declared.flat_memory.FlatStore.{FlatStore}
use Rattle.judge.specs.StoresInPasts.{IsLatestInPast}
use Rattle.judge.proofs.kept_stores.AnsweringKept.{answering_kept_same, answering_kept_value}

-- x is a latest store of p's past, of its value, by one of the first n processors
pub record IsFoundLatest (j : List Event) (p a n : ℕ) (x : FlatStore) : Type 0 where
  pub below : x.by < n
  pub is : IsLatestInPast j p a x.by x.place
  pub does : Does j x.place x.by (Store a x.value)

-- these are all of them, in their order
pub record AreFoundLatest (j : List Event) (p a n : ℕ) (found : List FlatStore) : Type 0 where
  pub has : (x : FlatStore) → Has found x ↔ IsFoundLatest j p a n x
  pub order : InOrder (λ (x y : FlatStore). x.by < y.by) found

-- a processor more that has none
pub found_latest_none : (j : List Event) (p a n : ℕ) (found : List FlatStore) → ((i : ℕ) → ¬ IsLatestInPast j p a n i)
    → AreFoundLatest j p a n found → AreFoundLatest j p a (n + 1) found
found_latest_none j p a n found none are = record {
  has = λ x. (
    λ h. (let f = (are.has x).0 h in record { below = (let lt = f.below in omega arith); is = f.is; does = f.does }),
    λ f. elim (cases_eq x.by n) [
      | inl same ↦ absurd (none x.place (subst (λ q. IsLatestInPast j p a q x.place) same f.is))
      | inr isnt ↦ (are.has x).1 (record { below = (let lt = f.below in omega arith); is = f.is; does = f.does })
    ],
  );
  order = are.order;
}

-- a processor more that has one
pub found_latest_next : (j : List Event) (p a n i v : ℕ) (found : List FlatStore) → IsLatestInPast j p a n i
    → Does j i n (Store a v) → AreFoundLatest j p a n found
    → AreFoundLatest j p a (n + 1) (found ++ record { by = n; place = i; value = v } ∷ [])
found_latest_next j p a n i v found is does are = record { has = λ x. (there x, back x); order = order }
  where
    one : FlatStore
    one = record { by = n; place = i; value = v }

    there : (x : FlatStore) → Has (found ++ one ∷ []) x → IsFoundLatest j p a (n + 1) x
    there x h = elim (slice_push_cases found one h.0 x h.1) [
      | inl first ↦
          (let f = (are.has x).0 (h.0, first.1) in
          record { below = (let lt = f.below in omega arith); is = f.is; does = f.does })
      | inr final ↦ subst (IsFoundLatest j p a (n + 1)) final.1 (record { below = omega arith; is = is; does = does })
    ]

    parts : (x : FlatStore) → n ≡ x.by → i ≡ x.place → v ≡ x.value → one ≡ x
    parts x by place value =
        subst (λ m. record { by = m; place = i; value = v } ≡ x) (sym by)
        (subst (λ m. record { by = x.by; place = m; value = v } ≡ x) (sym place)
        (subst (λ m. record { by = x.by; place = x.place; value = m } ≡ x) (sym value) refl))

    back : (x : FlatStore) → IsFoundLatest j p a (n + 1) x → Has (found ++ one ∷ []) x
    back x f = elim (cases_eq x.by n) [
      | inl same ↦
          (let place = answering_kept_same j p a n i x.place is (subst (λ q. IsLatestInPast j p a q x.place) same f.is) in
          let mine = subst (λ q. Does j x.place q (Store a x.value)) same f.does in
          let value = answering_kept_value j x.place n a v x.value (subst (λ m. Does j m n (Store a v)) place does) mine in
          (length found, slice_get-last found one ∙ ap (λ (z : FlatStore). Some z) (parts x (sym same) place value)))
      | inr isnt ↦
          (let h = (are.has x).1 (record { below = (let lt = f.below in omega arith); is = f.is; does = f.does }) in
          (h.0, slice_get-append_left found (one ∷ []) h.0 (slice_get_within found h.0 x h.1) ∙ h.1))
    ]

    order : InOrder (λ (x z : FlatStore). x.by < z.by) (found ++ one ∷ [])
    order m k x z lt at to = elim (slice_push_cases found one k z to) [
      | inl old ↦ elim (slice_push_cases found one m x at) [
        | inl first ↦ are.order m k x z lt first.1 old.1
        | inr final ↦ absurd (omega (arith, old.0, final.0, lt))
      ]
      | inr final ↦ elim (slice_push_cases found one m x at) [
        | inl first ↦
            (let below = ((are.has x).0 (m, first.1)).below in
            let by = ap (λ (s : FlatStore). s.by) final.1 in
            omega arith)
        | inr later ↦ absurd (omega (arith, later.0, final.0, lt))
      ]
    ]
