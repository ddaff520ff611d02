-- The values that a load may answer are those of its latest stores, or 0 if it has none.
use Rattle.std.proofs.Common.{ℕ, ◌≡◌, ◌≢◌, ◌↔◌, inl, inr, List, [], ◌∷◌, ◌++◌, length, refl, sym, ap, subst, ◌∙◌}
use Rattle.base.specs.InOrderOnce.{Has, IsOnce}
use Rattle.base.proofs.JoinedLists.{joined_list_has-append, joined_list_has-cons, joined_list_has-nil, joined_list_in_order-append, joined_list_in_order_single}
use Rattle.journal.specs.declared.event.Event.{Event}
use Rattle.journal.specs.declared.event.Kind.TheVariants.{Load, Store}
use Rattle.journal.specs.DidEvent.{did, event}
use Rattle.journal.specs.ExplainedAnswers.{IsAnswer}
use Rattle.journal.specs.WellFormed.{Does}
use Rattle.journal.proofs.Order.EventPlacesAndCounts.{event_place_longer}
use Rattle.judge.specs.declared.flat_memory.FlatStore.{FlatStore}
use Rattle.judge.specs.PermittedStores.{AreLatestStores}
use Rattle.judge.specs.Sources.Latest.{IsLatest}
use Rattle.judge.proofs.sources.Answering.{answering_store_at, answering_law}
use Rattle.explore.specs.AllowedAnswers.{AreAllowedAnswersOf, HasAllowedAnswerMore, IsAllowedAnswerOf}

pub allowed_answer_pushed : (old new : List ℕ) (v : ℕ) → ¬ Has old v → new ≡ old ++ v ∷ [] → HasAllowedAnswerMore old new v
allowed_answer_pushed old new v hasnt is = record {
  each = λ x. (
    λ there. elim ((joined_list_has-append old (v ∷ []) x).0 (subst (λ xs. Has xs x) is there)) [
      | inl was ↦ inl was
      | inr now ↦ elim ((joined_list_has-cons v [] x).0 now) [ inl own ↦ inr (sym own) | inr none ↦ absurd (joined_list_has-nil x none) ]
    ],
    λ either. subst (λ xs. Has xs x) (sym is) ((joined_list_has-append old (v ∷ []) x).1 (elim either [
      | inl was ↦ inl was
      | inr now ↦ inr ((joined_list_has-cons v [] x).1 (inl (sym now)))
    ])),
  );
  once = λ once. subst IsOnce (sym is)
      (joined_list_in_order-append (λ (a b : ℕ). a ≢ b) old (v ∷ []) once (joined_list_in_order_single (λ (a b : ℕ). a ≢ b) v)
      (λ a b here there same. elim ((joined_list_has-cons v [] b).0 there) [
        | inl own ↦ hasnt (subst (Has old) (same ∙ sym own) here)
        | inr none ↦ joined_list_has-nil b none
      ]));
}

-- of one store more, a value is the last one's, or one of the others'
pub allowed_values_next : (stores : List FlatStore) (s : FlatStore) (old new : List ℕ) → AreAllowedAnswersOf stores old
    → HasAllowedAnswerMore old new s.value → AreAllowedAnswersOf (stores ++ s ∷ []) new
allowed_values_next stores s old new of more = record { each = λ x. (there x, back x); once = more.once of.once }
  where
    there : (x : ℕ) → Has new x → IsAllowedAnswerOf (stores ++ s ∷ []) x
    there x has = elim ((more.each x).0 has) [
      | inl was ↦
          (let y = (of.each x).0 was in
          record { store = y.store; has = (joined_list_has-append stores (s ∷ []) y.store).1 (inl y.has); is = y.is })
      | inr now ↦
          record { store = s; has = (joined_list_has-append stores (s ∷ []) s).1 (inr ((joined_list_has-cons s [] s).1 (inl refl))); is = sym now }
    ]

    back : (x : ℕ) → IsAllowedAnswerOf (stores ++ s ∷ []) x → Has new x
    back x y = elim ((joined_list_has-append stores (s ∷ []) y.store).0 y.has) [
      | inl was ↦ (more.each x).1 (inl ((of.each x).1 (record { store = y.store; has = was; is = y.is })))
      | inr now ↦ elim ((joined_list_has-cons s [] y.store).0 now) [
        | inl own ↦ (more.each x).1 (inr (sym y.is ∙ ap (λ (z : FlatStore). z.value) (sym own)))
        | inr none ↦ absurd (joined_list_has-nil y.store none)
      ]
    ]

-- the values of the latest stores are what a load may answer
module _ (j : List Event) (p a : ℕ) (latest : List FlatStore) (found : List ℕ)
    (tells : (w : ℕ) → AreLatestStores (did j p (Load a w)) (length j) a latest) (of : AreAllowedAnswersOf latest found) where
  abbrev IsAllowedNext : ℕ → Type 0
  IsAllowedNext x = IsAnswer (did j p (Load a x)) (length j) a x

  -- a value that was found is one of a latest store
  allowed_found_latest : (x y : ℕ) → Has found y
      → (q : ℕ) × (i : ℕ) × IsLatest (did j p (Load a x)) (length j) a q i × Does (did j p (Load a x)) i q (Store a y)
  allowed_found_latest x y has =
      let is = (of.each y).0 has in
      let l = ((tells x).has is.store).0 is.has in (
        is.store.by,
        is.store.place,
        l.latest,
        subst (λ v. Does (did j p (Load a x)) is.store.place is.store.by (Store a v)) is.is l.stores,
      )

  allowed_latest_found : (x y q i : ℕ) → IsLatest (did j p (Load a x)) (length j) a q i → Does (did j p (Load a x)) i q (Store a y)
      → Has found y
  allowed_latest_found x y q i l does =
      (of.each y).1 (record {
        store = record { by = q; place = i; value = y };
        has = ((tells x).has (record { by = q; place = i; value = y })).1 (record { stores = does; latest = l });
        is = refl;
      })

  -- some were found: they are what it may answer
  pub allowed_answers_some : found ≢ [] → (x : ℕ) → Has found x ↔ IsAllowedNext x
  allowed_answers_some some x = (
    λ has. (answering_law (did j p (Load a x)) (length j) a x).1 (inr (allowed_found_latest x x has)),
    λ answer. elim ((answering_law (did j p (Load a x)) (length j) a x).0 answer) [
      | inl none ↦
          (let one = first_of found some in
          let l = allowed_found_latest x one.0 one.1 in
          absurd (none.1 l.0 l.1 l.2))
      | inr l ↦ allowed_latest_found x x l.0 l.1 l.2 l.3
    ],
  )
    where
      first_of : (ys : List ℕ) → ys ≢ [] → (y : ℕ) × Has ys y
      first_of [] not_empty = absurd (not_empty refl)
      first_of (y ∷ ys) not_empty = (y, (0, refl))

  -- none was: it answers 0
  pub allowed_answers_none : found ≡ [] → (x : ℕ) → Has (0 ∷ []) x ↔ IsAllowedNext x
  allowed_answers_none none x = (there, back)
    where
      nothing : (q i : ℕ) → ¬ IsLatest (did j p (Load a x)) (length j) a q i
      nothing q i l =
          let at = event_place_longer j (event p (Load a x) ∷ []) i (event q (Store a l.value)) (answering_store_at j p a x q i l) in
          joined_list_has-nil l.value (subst (λ xs. Has xs l.value) none (allowed_latest_found x l.value q i l at))

      there : Has (0 ∷ []) x → IsAllowedNext x
      there has = elim ((joined_list_has-cons 0 [] x).0 has) [
        | inl is ↦ (answering_law (did j p (Load a x)) (length j) a x).1 (inl (sym is, nothing))
        | inr more ↦ absurd (joined_list_has-nil x more)
      ]

      back : IsAllowedNext x → Has (0 ∷ []) x
      back answer = elim ((answering_law (did j p (Load a x)) (length j) a x).0 answer) [
        | inl is ↦ (joined_list_has-cons 0 [] x).1 (inl (sym is.0))
        | inr l ↦ absurd (nothing l.0 l.1 l.2)
      ]
