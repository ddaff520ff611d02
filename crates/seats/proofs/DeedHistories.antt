-- Phases and locks of a processor, by what it did and by the history.
use Rattle.std.proofs.Common.{ℕ, ◌≡◌, ◌≢◌, ◌+◌, ◌⊎◌, inl, inr, Bool, true, false, List, [], ◌∷◌, ◌++◌, refl, sym, ap, subst, ◌∙◌}
use Rattle.std.specs.Prelude.{◌==◌}
use Rattle.std.proofs.lemmas.Bool.{cases_eq, eqb-true, eq-eqb, ne_eqb}
use Rattle.base.proofs.SlicesAndCounts.{slice_count_by-append, slice_push_induction}
use Rattle.journal.proofs.Order.EventPlacesAndCounts.{event_count-append}
use Rattle.journal.specs.declared.event.Event.{Event}
use Rattle.journal.specs.declared.event.Kind.{Kind}
use Rattle.journal.specs.declared.event.Kind.TheVariants.{Acquire, Release, Fetch}
use Rattle.journal.specs.DidEvent.{event}
use Rattle.journal.specs.Events.{event_count, event_departs, events_of}
use Rattle.journal.specs.WellFormed.{Holds}
use Rattle.journal.proofs.Journals.WellFormedStays.{well_formed_stays_holds_longer, well_formed_stays_holds_now}
use Rattle.seats.specs.Deeds.{deeds, is_deed}
use Rattle.seats.specs.PhaseGuards.{phase_guard_held_on, phase_guard_held_then, phase_guard_holds_after, guard_phase_after}
use Rattle.seats.proofs.Deeds.{deeds_of_fetch, deed_of_others_event, deed_of_own_event, deeds_of_processor-append}

pub phase_guard_held_on-append : (ks ls : List Kind) (l : ℕ) (b : Bool) → phase_guard_held_on (ks ++ ls) l b ≡ phase_guard_held_on ls l (phase_guard_held_on ks l b)
phase_guard_held_on-append [] ls l b = refl
phase_guard_held_on-append (k ∷ ks) ls l b = phase_guard_held_on-append ks ls l (phase_guard_held_then k l b)

-- what a kind counts among departures, also where fetches are left out
deed_history_phase_of_kind : (k : Kind) → is_deed k ≡ false → event_departs k ≡ false
deed_history_phase_of_kind (Fetch w n r d) e = refl
deed_history_phase_of_kind _ e = absurd (cc)

-- the phase is the departures of the history
pub deed_history_phase : (j : List Event) (p : ℕ) → guard_phase_after (deeds (events_of j p)) ≡ event_count event_departs j p
deed_history_phase j p = slice_push_induction (λ xs. guard_phase_after (deeds (events_of xs p)) ≡ event_count event_departs xs p) refl step j
  where
    one : (e : Event) (own deed : Bool) → (e.processor == p) ≡ own → is_deed e.kind ≡ deed
        → guard_phase_after (deeds (events_of (e ∷ []) p)) ≡ event_count event_departs (e ∷ []) p
    one e false deed is has = rw is refl
    one e true false is has = rw is (rw has (rw (deed_history_phase_of_kind e.kind has) refl))
    one e true true is has = rw is (rw has refl)

    step : (xs : List Event) (e : Event) → guard_phase_after (deeds (events_of xs p)) ≡ event_count event_departs xs p
        → guard_phase_after (deeds (events_of (xs ++ e ∷ []) p)) ≡ event_count event_departs (xs ++ e ∷ []) p
    step xs e ih =
        ap guard_phase_after (deeds_of_processor-append xs (e ∷ []) p)
        ∙ slice_count_by-append event_departs (deeds (events_of xs p)) (deeds (events_of (e ∷ []) p))
        ∙ ap (λ n. n + guard_phase_after (deeds (events_of (e ∷ []) p))) ih
        ∙ ap (λ n. event_count event_departs xs p + n) (one e (e.processor == p) (is_deed e.kind) refl refl)
        ∙ sym (event_count-append event_departs xs (e ∷ []) p)

-- an event is p's release of the lock, or isn't
pub deed_history_release_or : (e : Event) (p l : ℕ) → (e ≡ event p (Release l)) ⊎ (e ≢ event p (Release l))
deed_history_release_or e p l = elim (cases_eq e.processor p) [
  | inl own ↦ elim (kind_or e.kind) [
    | inl is ↦ inl (let same : event e.processor e.kind ≡ event p (Release l) = cc in same)
    | inr isnt ↦ inr (λ same. isnt (ap (λ (x : Event). x.kind) same))
  ]
  | inr other ↦ inr (λ same. other (ap (λ (x : Event). x.processor) same))
]
  where
    kind_or : (k : Kind) → (k ≡ Release l) ⊎ (k ≢ Release l)
    kind_or (Release m) = elim (cases_eq m l) [ inl is ↦ inl (ap Release is) | inr isnt ↦ inr (λ e. isnt (cc)) ]
    kind_or _ = inr (λ e. cc)

deed_history_acquire_or : (k : Kind) (l : ℕ) → (k ≡ Acquire l) ⊎ (k ≢ Acquire l)
deed_history_acquire_or (Acquire m) l = elim (cases_eq m l) [ inl is ↦ inl (ap Acquire is) | inr isnt ↦ inr (λ e. isnt (cc)) ]
deed_history_acquire_or _ l = inr (λ e. cc)

-- who holds a lock after what isn't its acquire held it before
deed_history_held_before : (l : ℕ) (k : Kind) (b : Bool) → k ≢ Acquire l → phase_guard_held_then k l b ≡ true → b ≡ true
deed_history_held_before l (Acquire m) b other held = elim (cases_eq m l) [
  | inl is ↦ absurd (other (ap Acquire is))
  | inr isnt ↦ (rw (ne_eqb m l isnt) at held)
]
deed_history_held_before l (Release m) b other held = elim (cases_eq m l) [
  | inl is ↦ absurd (let none : false ≡ true = rw (eq-eqb m l is) at held in cc)
  | inr isnt ↦ (rw (ne_eqb m l isnt) at held)
]
deed_history_held_before l _ b other held = held

-- a fetch changes nothing of which locks are held
deed_history_fetch_holds : (l : ℕ) (k : Kind) (b : Bool) → is_deed k ≡ false → b ≡ true → phase_guard_held_then k l b ≡ true
deed_history_fetch_holds l (Fetch w n r d) b none held = held
deed_history_fetch_holds l _ b none held = absurd (cc)

-- who holds the lock after what it did holds it in the history
pub deed_history_holds : (l p : ℕ) (j : List Event) → phase_guard_holds_after (deeds (events_of j p)) l ≡ true → Holds j p l
deed_history_holds l p = slice_push_induction (λ j. phase_guard_holds_after (deeds (events_of j p)) l ≡ true → Holds j p l) (λ e. absurd (cc)) step
  where
    by_kind : (j : List Event) (k : Kind) → (phase_guard_holds_after (deeds (events_of j p)) l ≡ true → Holds j p l)
        → phase_guard_held_then k l (phase_guard_holds_after (deeds (events_of j p)) l) ≡ true → Holds (j ++ event p k ∷ []) p l
    by_kind j k ih held = elim (deed_history_release_or (event p k) p l) [
      | inl is ↦ absurd (released k _ (ap (λ (x : Event). x.kind) is) held)
      | inr isnt ↦ elim (deed_history_acquire_or k l) [
        | inl is ↦ subst (λ n. Holds (j ++ event p n ∷ []) p l) (sym is) (well_formed_stays_holds_now j p l)
        | inr other ↦ well_formed_stays_holds_longer j (event p k) p l isnt (ih (deed_history_held_before l k _ other held))
      ]
    ]
      where
        released : (k : Kind) (b : Bool) → k ≡ Release l → phase_guard_held_then k l b ≡ true → ⊥
        released k b is held =
            let now : phase_guard_held_then (Release l) l b ≡ true = subst (λ x. phase_guard_held_then x l b ≡ true) is held in
            let none : false ≡ true = rw (eq-eqb l l refl) at now in
            absurd (cc)

    step : (j : List Event) (e : Event) → (phase_guard_holds_after (deeds (events_of j p)) l ≡ true → Holds j p l)
        → phase_guard_holds_after (deeds (events_of (j ++ e ∷ []) p)) l ≡ true → Holds (j ++ e ∷ []) p l
    step j e ih held = by (e.processor == p) (is_deed e.kind) refl refl
      where
        after : phase_guard_held_on (deeds (events_of (e ∷ []) p)) l (phase_guard_holds_after (deeds (events_of j p)) l) ≡ true
        after = sym (phase_guard_held_on-append (deeds (events_of j p)) (deeds (events_of (e ∷ []) p)) l false)
            ∙ sym (ap (λ ks. phase_guard_holds_after ks l) (deeds_of_processor-append j (e ∷ []) p)) ∙ held

        by : (own deed : Bool) → (e.processor == p) ≡ own → is_deed e.kind ≡ deed → Holds (j ++ e ∷ []) p l
        by false deed is has =
            well_formed_stays_holds_longer j e p l (λ same. let own : e.processor ≡ p = ap (λ (x : Event). x.processor) same in
            absurd (let f = eq-eqb e.processor p own in cc)) (ih (rw (deed_of_others_event e p is) at after))
        by true deed is has =
            let own : e.processor ≡ p = eqb-true e.processor p is in
            subst (λ q. Holds (j ++ event q e.kind ∷ []) p l) (sym own) (by_kind j e.kind ih (then deed is has))
          where
            then : (deed : Bool) → (e.processor == p) ≡ true → is_deed e.kind ≡ deed
                → phase_guard_held_then e.kind l (phase_guard_holds_after (deeds (events_of j p)) l) ≡ true
            then true is has = rw (deed_of_own_event e p is has) at after
            then false is has = deed_history_fetch_holds l e.kind _ has (rw (deeds_of_fetch e p is has) at after)
