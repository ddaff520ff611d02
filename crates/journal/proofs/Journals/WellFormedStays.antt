-- What keeps a journal well formed, event by event.
use Rattle.std.proofs.Common.{◌≡◌, ◌≢◌, ℕ, ◌≤◌, ◌⊎◌, inl, inr, ◌↔◌, List, [], ◌∷◌, ◌++◌, length, take, subst, sym, refl, ap, ◌∙◌, take-take, arith}
use Rattle.std.proofs.lemmas.Option.{none-some}
use Rattle.std.proofs.lemmas.Bool.{cases_eq, cases_order}
use Rattle.std.proofs.lemmas.List.{take-append-le}
use Rattle.std.proofs.Math.Seq.{take-append_seam}
use Rattle.journal.specs.declared.event.Event.{Event}
use Rattle.journal.specs.declared.event.Kind.{Kind}
use Rattle.journal.specs.declared.event.Kind.TheVariants.{Acquire, Release}
use Rattle.journal.specs.DidEvent.{event}
use Rattle.journal.specs.Sizes.{Sizes}
use Rattle.journal.specs.Events.{EventAt}
use Rattle.journal.specs.WellFormed.{Does, LastIs, Holds, WellFormedNext, WellFormed}
use Rattle.base.proofs.SlicesAndCounts.{slice_get-take_within, slice_get-from_take, slice_push_cases, slice_append_cases, slice_push_induction}
use Rattle.journal.proofs.Order.EventPlacesAndCounts.{event_place_inside, event_place_longer, event_place_at_end, event_place_does_same}

-- the empty journal is well formed
pub well_formed_stays_start : (s : Sizes) → WellFormed s []
well_formed_stays_start s k e at = absurd (none-some e at)

-- each front of a well formed journal is
pub well_formed_stays_take : (s : Sizes) (j : List Event) (n : ℕ) → WellFormed s j → WellFormed s (take n j)
well_formed_stays_take s j n well k e at =
    let lt = slice_get-take_within j n k e at in
    let le : k ≤ n = omega arith in
    rw take-take (well k e (slice_get-from_take j n k e at))

-- and each beginning
pub well_formed_stays_front : (s : Sizes) (j es : List Event) → WellFormed s (j ++ es) → WellFormed s j
well_formed_stays_front s j es well k e at =
    let lt = event_place_inside j k e at in
    subst (λ xs. WellFormedNext s xs e) (take-append-le k j es (omega arith)) (well k e (event_place_longer j es k e at))

-- a journal with one more event is well formed exactly where the journal is, and the event may follow
pub well_formed_stays_push : (s : Sizes) (j : List Event) (e : Event)
    → WellFormed s (j ++ e ∷ []) ↔ (WellFormed s j × WellFormedNext s j e)
well_formed_stays_push s j e = ((λ well. (well_formed_stays_front s j (e ∷ []) well, last well)), (λ both. back both.0 both.1))
  where
    last : WellFormed s (j ++ e ∷ []) → WellFormedNext s j e
    last well = subst (λ xs. WellFormedNext s xs e) (take-append_seam j (e ∷ [])) (well (length j) e (event_place_at_end j e))

    back : WellFormed s j → WellFormedNext s j e → WellFormed s (j ++ e ∷ [])
    back well may k f at = elim (slice_push_cases j e k f at) [
      | inl old ↦ (let lt = old.0 in
          subst (λ xs. WellFormedNext s xs f) (sym (take-append-le k j (e ∷ []) (omega arith))) (well k f old.1))
      | inr new ↦ subst (λ g. WellFormedNext s (take k (j ++ e ∷ [])) g) new.1 (subst (λ xs. WellFormedNext s xs e)
          (sym (take-append_seam j (e ∷ [])) ∙ ap (λ m. take m (j ++ e ∷ [])) (sym new.0)) may)
    ]

-- a processor has one last event
pub well_formed_stays_last_unique : (j : List Event) (p i k : ℕ) (a b : Kind) → LastIs j p i a → LastIs j p k b → (i ≡ k) × (a ≡ b)
well_formed_stays_last_unique j p i k a b x y = elim (cases_order i k) [
  | inl is ↦ (is, (event_place_does_same j k p p a b (subst (λ m. Does j m p a) is x.does) y.does).1)
  | inr apart ↦ elim apart [
    | inl lt ↦ absurd (x.last k (event p b) lt y.does refl)
    | inr lt ↦ absurd (y.last i (event p a) lt x.does refl)
  ]
]

-- the event that is pushed is its processor's last
pub well_formed_stays_last_now : (j : List Event) (e : Event) → LastIs (j ++ e ∷ []) e.processor (length j) e.kind
well_formed_stays_last_now j e =
    record {
      does = event_place_at_end j e;
      last = λ m f lt at. (let within = event_place_inside (j ++ e ∷ []) m f at in
          elim (slice_push_cases j e m f at)
          [ inl old ↦ absurd (omega (arith, old.0)) | inr new ↦ absurd (omega (arith, new.0)) ]);
    }

-- others' events leave a processor's last one
pub well_formed_stays_last_longer : (j es : List Event) (p i : ℕ) (a : Kind) → ((m : ℕ) (f : Event) → EventAt es m f → f.processor ≢ p)
    → LastIs j p i a → LastIs (j ++ es) p i a
well_formed_stays_last_longer j es p i a away x = record {
  does = event_place_longer j es i (event p a) x.does;
  last =
      λ m f lt at. elim (slice_append_cases j es m f at) [ inl old ↦ x.last m f lt old.1 | inr new ↦ away new.0 f new.2 ];
}

pub well_formed_stays_last_shorter : (j es : List Event) (p i : ℕ) (a : Kind) → ((m : ℕ) (f : Event) → EventAt es m f → f.processor ≢ p)
    → LastIs (j ++ es) p i a → LastIs j p i a
well_formed_stays_last_shorter j es p i a away x = elim (slice_append_cases j es i (event p a) x.does) [
  | inl old ↦ record { does = old.1; last = λ m f lt at. x.last m f lt (event_place_longer j es m f at) }
  | inr new ↦ absurd (away new.0 (event p a) new.2 refl)
]

-- a processor has a last event, or none
pub well_formed_stays_last_or_none : (j : List Event) (p : ℕ)
    → ((i : ℕ) × (a : Kind) × LastIs j p i a) ⊎ ((m : ℕ) (f : Event) → EventAt j m f → f.processor ≢ p)
well_formed_stays_last_or_none j p =
    slice_push_induction
    (λ xs. ((i : ℕ) × (a : Kind) × LastIs xs p i a) ⊎ ((m : ℕ) (f : Event) → EventAt xs m f → f.processor ≢ p))
    (inr (λ m f at. absurd (none-some f at))) step j
  where
    away : (e : Event) → e.processor ≢ p → (m : ℕ) (f : Event) → EventAt (e ∷ []) m f → f.processor ≢ p
    away e isnt m f at same =
        elim (slice_push_cases [] e m f at)
        [ inl old ↦ absurd (none-some f old.1) | inr new ↦ isnt (ap (λ x. x.processor) new.1 ∙ same) ]

    step : (xs : List Event) (e : Event)
        → ((i : ℕ) × (a : Kind) × LastIs xs p i a) ⊎ ((m : ℕ) (f : Event) → EventAt xs m f → f.processor ≢ p)
        → ((i : ℕ) × (a : Kind) × LastIs (xs ++ e ∷ []) p i a)
        ⊎ ((m : ℕ) (f : Event) → EventAt (xs ++ e ∷ []) m f → f.processor ≢ p)
    step xs e ih = elim (cases_eq e.processor p) [
      | inl is ↦ inl (length xs, e.kind, subst (λ q. LastIs (xs ++ e ∷ []) q (length xs) e.kind) is (well_formed_stays_last_now xs e))
      | inr isnt ↦ elim ih [
        | inl x ↦ inl (x.0, x.1, well_formed_stays_last_longer xs (e ∷ []) p x.0 x.1 (away e isnt) x.2)
        | inr none ↦ inr (λ m f at same. elim (slice_push_cases xs e m f at)
            [ inl old ↦ none m f old.1 same | inr new ↦ isnt (ap (λ x. x.processor) new.1 ∙ same) ])
      ]
    ]

-- who acquires a lock holds it
pub well_formed_stays_holds_now : (j : List Event) (p l : ℕ) → Holds (j ++ event p (Acquire l) ∷ []) p l
well_formed_stays_holds_now j p l = record {
  place = length j;
  acquires = event_place_at_end j (event p (Acquire l));
  keeps =
      λ k lt does. elim (slice_push_cases j (event p (Acquire l)) k (event p (Release l)) does)
      [ inl old ↦ omega (arith, old.0) | inr new ↦ omega (arith, new.0) ];
}

-- and holds it until its release
pub well_formed_stays_holds_longer : (j : List Event) (e : Event) (p l : ℕ) → e ≢ (event p (Release l)) → Holds j p l
    → Holds (j ++ e ∷ []) p l
well_formed_stays_holds_longer j e p l isnt h = record {
  place = h.place;
  acquires = event_place_longer j (e ∷ []) h.place (event p (Acquire l)) h.acquires;
  keeps =
      λ k lt does. elim (slice_push_cases j e k (event p (Release l)) does)
      [ inl old ↦ h.keeps k lt old.1 | inr new ↦ isnt new.1 ];
}

-- who holds a lock after an event held it before, and does not release it, or acquires it
pub well_formed_stays_holds_cases : (j : List Event) (e : Event) (p l : ℕ) → Holds (j ++ e ∷ []) p l
    → (Holds j p l × (e ≢ (event p (Release l)))) ⊎ (e ≡ event p (Acquire l))
well_formed_stays_holds_cases j e p l h = elim (slice_push_cases j e h.place (event p (Acquire l)) h.acquires) [
  | inl old ↦ inl (
    record {
      place = h.place;
      acquires = old.1;
      keeps = λ k lt does. h.keeps k lt (event_place_longer j (e ∷ []) k (event p (Release l)) does);
    },
    λ is. h.keeps (length j) old.0 (subst (λ f. EventAt (j ++ e ∷ []) (length j) f) is (event_place_at_end j e)),
  )
  | inr new ↦ inr new.1
]

-- a processor's last event after one more: that one, or another processor's before it
pub well_formed_stays_last_cases : (j : List Event) (e : Event) (p i : ℕ) (a : Kind) → LastIs (j ++ e ∷ []) p i a
    → ((e.processor ≡ p) × (i ≡ length j) × (a ≡ e.kind)) ⊎ ((e.processor ≢ p) × LastIs j p i a)
well_formed_stays_last_cases j e p i a x = elim (cases_eq e.processor p) [
  | inl is ↦ (let same = well_formed_stays_last_unique (j ++ e ∷ []) p i (length j) a e.kind x
      (subst (λ q. LastIs (j ++ e ∷ []) q (length j) e.kind) is (well_formed_stays_last_now j e)) in
      inl (is, same.0, same.1))
  | inr isnt ↦ inr (
    isnt,
    well_formed_stays_last_shorter j (e ∷ []) p i a (λ m f at same. elim (slice_push_cases [] e m f at)
        [ inl old ↦ absurd (none-some f old.1) | inr new ↦ isnt (ap (λ y. y.processor) new.1 ∙ same) ])
        x,
  )
]
