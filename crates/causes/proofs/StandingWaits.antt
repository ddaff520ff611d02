-- What a processor did last, what it holds and what it waits for.
use Rattle.std.proofs.Common.{◌≡◌, ◌≢◌, ◌⊎◌, ◌↔◌, ℕ, ◌+◌, ◌<◌, ◌≤◌, Bool, IsTrue, inl, inr, List, [], ◌∷◌, ◌++◌, Some, length, subst, sym, refl, ap, ◌∙◌, arith}
use Rattle.std.proofs.lemmas.Bool.{cases_eq}
use Rattle.std.proofs.lemmas.Option.{none-some, slice_get_within}
use Rattle.base.specs.InOrderOnce.{Has, InOrder}
use Rattle.base.proofs.SlicesAndCounts.{slice_push_cases, slice_get-append_left, slice_get-last}
use Rattle.journal.specs.declared.event.Event.{Event}
use Rattle.journal.specs.declared.event.Kind.{Kind}
use Rattle.journal.specs.declared.event.Kind.TheVariants.{Acquire, Release}
use Rattle.journal.specs.DidEvent.{event}
use Rattle.journal.specs.Events.{EventAt}
use Rattle.journal.specs.WellFormed.{Does, Holds}
use Rattle.journal.proofs.Order.EventPlacesAndCounts.{event_place_inside, event_place_same}
use Rattle.causes.specs.declared.waits_at_end.Wait.{Wait}
use Rattle.causes.specs.FinalWaits.{AreThoseInFinalWait, AreFinalWaits, IsFinalWait}

-- p has acquired l below place n, and not released it since
pub record StandingWaitHoldsBelow (j : List Event) (p l n : ℕ) : Type 0 where
  pub place : ℕ
  pub below : place < n
  pub acquires : Does j place p (Acquire l)
  pub keeps : (k : ℕ) → place < k → k < n → ¬ Does j k p (Release l)

-- whether l is acquired or released
standing_wait_kind_cases : (l : ℕ) (k : Kind) → (k ≡ Acquire l) ⊎ ((k ≡ Release l) ⊎ ((k ≢ Acquire l) × (k ≢ Release l)))
standing_wait_kind_cases l (Acquire m) = elim (cases_eq m l) [
  | inl is ↦ inl (ap (λ i. Acquire i) is)
  | inr isnt ↦ inr (inr ((λ same. isnt (cc same)), (λ same. absurd (cc same))))
]
standing_wait_kind_cases l (Release m) = elim (cases_eq m l) [
  | inl is ↦ inr (inl (ap (λ i. Release i) is))
  | inr isnt ↦ inr (inr ((λ same. absurd (cc same)), (λ same. isnt (cc same))))
]
standing_wait_kind_cases l _ = inr (inr ((λ same. absurd (cc same)), (λ same. absurd (cc same))))

-- whether p does that
standing_wait_event_cases : (p l : ℕ) (e : Event)
    → (e ≡ event p (Acquire l)) ⊎ ((e ≡ event p (Release l)) ⊎ ((e ≢ event p (Acquire l)) × (e ≢ event p (Release l))))
standing_wait_event_cases p l e = elim (cases_eq e.processor p) [
  | inl same ↦ elim (standing_wait_kind_cases l e.kind) [
    | inl is ↦ inl (subst (λ q. e ≡ event q (Acquire l)) same (subst (λ k. e ≡ event e.processor k) is refl))
    | inr other ↦ elim other [
      | inl is ↦ inr (inl (subst (λ q. e ≡ event q (Release l)) same (subst (λ k. e ≡ event e.processor k) is refl)))
      | inr neither ↦ inr (inr (
        (λ is. neither.0 (ap (λ (x : Event). x.kind) is)),
        (λ is. neither.1 (ap (λ (x : Event). x.kind) is)),
      ))
    ]
  ]
  | inr isnt ↦ inr (inr (
    (λ is. isnt (ap (λ (x : Event). x.processor) is)),
    (λ is. isnt (ap (λ (x : Event). x.processor) is)),
  ))
]

module _ (j : List Event) (p l n : ℕ) (e : Event) (at : EventAt j n e) where
  -- p holds l after it acquires that
  standing_wait_holds_acquired : e ≡ event p (Acquire l) → StandingWaitHoldsBelow j p l (n + 1)
  standing_wait_holds_acquired is = record {
    place = n;
    below = omega arith;
    acquires = subst (EventAt j n) is at;
    keeps = λ k lt le. absurd (omega arith);
  }

  -- not after it releases that
  standing_wait_holds_released : e ≡ event p (Release l) → ¬ StandingWaitHoldsBelow j p l (n + 1)
  standing_wait_holds_released is h = elim (cases_eq h.place n) [
    | inl now ↦
        (let same = event_place_same j n (event p (Acquire l)) e (subst (λ m. Does j m p (Acquire l)) now h.acquires) at in
        let kinds : Acquire l ≡ Release l = ap (λ (x : Event). x.kind) (same ∙ is) in
        absurd (cc kinds))
    | inr before ↦
        (let lt = h.below in h.keeps n (omega arith) (omega arith) (subst (EventAt j n) is at))
  ]

  -- and anything else leaves it
  standing_wait_holds_others : e ≢ event p (Acquire l) → e ≢ event p (Release l)
      → StandingWaitHoldsBelow j p l n ↔ StandingWaitHoldsBelow j p l (n + 1)
  standing_wait_holds_others acquires releases = (there, back)
    where
      there : StandingWaitHoldsBelow j p l n → StandingWaitHoldsBelow j p l (n + 1)
      there h = record {
        place = h.place;
        below = (let lt = h.below in omega arith);
        acquires = h.acquires;
        keeps = λ k lt le does. elim (cases_eq k n) [
          | inl now ↦ releases (event_place_same j n e (event p (Release l)) at (subst (λ m. Does j m p (Release l)) now does))
          | inr before ↦ h.keeps k lt (omega arith) does
        ];
      }

      back : StandingWaitHoldsBelow j p l (n + 1) → StandingWaitHoldsBelow j p l n
      back h = elim (cases_eq h.place n) [
        | inl now ↦
            absurd (acquires (event_place_same j n e (event p (Acquire l)) at (subst (λ m. Does j m p (Acquire l)) now h.acquires)))
        | inr before ↦ record {
          place = h.place;
          below = (let lt = h.below in omega arith);
          acquires = h.acquires;
          keeps = λ k lt le. h.keeps k lt (omega arith);
        }
      ]

  -- a mark for what p holds, one event on
  pub standing_wait_mark_next : (was now : Bool) → (e ≡ event p (Acquire l) → IsTrue now) → (e ≡ event p (Release l) → ¬ IsTrue now)
      → (e ≢ event p (Acquire l) → e ≢ event p (Release l) → now ≡ was) → IsTrue was ↔ StandingWaitHoldsBelow j p l n
      → IsTrue now ↔ StandingWaitHoldsBelow j p l (n + 1)
  standing_wait_mark_next was now acquired released kept old = elim (standing_wait_event_cases p l e) [
    | inl is ↦ ((λ _. standing_wait_holds_acquired is), (λ _. acquired is))
    | inr other ↦ elim other [
      | inl is ↦ ((λ yes_is. absurd (released is yes_is)), (λ h. absurd (standing_wait_holds_released is h)))
      | inr neither ↦
          (let same = kept neither.0 neither.1 in
          let stays = standing_wait_holds_others neither.0 neither.1 in (
            (λ yes_is. stays.0 (old.0 (sym same ∙ yes_is))),
            (λ h. same ∙ old.1 (stays.1 h)),
          ))
    ]
  ]

-- what p holds below the end of the events is what it holds
pub standing_wait_holds_whole : (j : List Event) (p l n : ℕ) → length j ≤ n → StandingWaitHoldsBelow j p l n ↔ Holds j p l
standing_wait_holds_whole j p l n end = (there, back)
  where
    there : StandingWaitHoldsBelow j p l n → Holds j p l
    there h = record {
      place = h.place;
      acquires = h.acquires;
      keeps = λ k lt does. (let inside = event_place_inside j k (event p (Release l)) does in h.keeps k lt (omega arith) does);
    }

    back : Holds j p l → StandingWaitHoldsBelow j p l n
    back h = record {
      place = h.place;
      below = (let inside = event_place_inside j h.place (event p (Acquire l)) h.acquires in omega arith);
      acquires = h.acquires;
      keeps = λ k lt le. h.keeps k lt;
    }

-- at first there are none
pub standing_wait_those_none : (P : ℕ → Type 0) → AreThoseInFinalWait P 0 []
standing_wait_those_none P = record {
  has = λ q. ((λ at. absurd (none-some q at.1)), λ s. (let lt = s.0 in absurd (omega arith)));
  order = λ m n a b lt at to. absurd (none-some a at);
}

-- a processor more of which it holds
pub standing_wait_those_next : (P : ℕ → Type 0) (n : ℕ) (qs : List ℕ) → P n → AreThoseInFinalWait P n qs → AreThoseInFinalWait P (n + 1) (qs ++ n ∷ [])
standing_wait_those_next P n qs now old = record { has = λ q. (there q, back q); order = order }
  where
    there : (q : ℕ) → Has (qs ++ n ∷ []) q → (q < n + 1) × P q
    there q at = elim (slice_push_cases qs n at.0 q at.1) [
      | inl was ↦ (let x = (old.has q).0 (at.0, was.1) in let lt = x.0 in (omega arith, x.1))
      | inr new ↦ (omega (arith, new.1), subst P new.1 now)
    ]

    back : (q : ℕ) → ((q < n + 1) × P q) → Has (qs ++ n ∷ []) q
    back q x = elim (cases_eq q n) [
      | inl is ↦ (length qs, slice_get-last qs n ∙ ap (λ m. Some m) (sym is))
      | inr isnt ↦
          (let lt = x.0 in
          let at = (old.has q).1 (omega arith, x.1) in
          (at.0, slice_get-append_left qs (n ∷ []) at.0 (slice_get_within qs at.0 q at.1) ∙ at.1))
    ]

    order : InOrder (λ p q. p < q) (qs ++ n ∷ [])
    order m l a b lt at to = elim (slice_push_cases qs n l b to) [
      | inl was ↦ elim (slice_push_cases qs n m a at) [
        | inl first ↦ old.order m l a b lt first.1 was.1
        | inr new ↦ (let inside = slice_get_within qs l b was.1 in absurd (omega (arith, new.0)))
      ]
      | inr new ↦ elim (slice_push_cases qs n m a at) [
        | inl first ↦ (let x = ((old.has a).0 (m, first.1)).0 in omega (arith, new.1))
        | inr later ↦ absurd (omega (arith, later.0, new.0, lt))
      ]
    ]

-- or doesn't
pub standing_wait_those_others : (P : ℕ → Type 0) (n : ℕ) (qs : List ℕ) → ¬ P n → AreThoseInFinalWait P n qs → AreThoseInFinalWait P (n + 1) qs
standing_wait_those_others P n qs away old = record { has = λ q. (there q, back q); order = old.order }
  where
    there : (q : ℕ) → Has qs q → (q < n + 1) × P q
    there q at = (let x = (old.has q).0 at in let lt = x.0 in (omega arith, x.1))

    back : (q : ℕ) → ((q < n + 1) × P q) → Has qs q
    back q x = elim (cases_eq q n) [
      | inl is ↦ absurd (away (subst P is x.1))
      | inr isnt ↦ (let lt = x.0 in (old.has q).1 (omega arith, x.1))
    ]

-- a row more
pub standing_wait_rows_next : (n : ℕ) (j : List Event) (waits : List Wait) (p : ℕ) (w : Wait) → length waits ≡ p
    → AreFinalWaits n j waits → IsFinalWait n j p w → AreFinalWaits n j (waits ++ w ∷ [])
standing_wait_rows_next n j waits p w long are now q new at = elim (slice_push_cases waits w q new at) [
  | inl old ↦ are q new old.1
  | inr last ↦
      (let is : p ≡ q = omega (arith, last.0) in
      subst (IsFinalWait n j q) last.1 (subst (λ m. IsFinalWait n j m w) is now))
]
