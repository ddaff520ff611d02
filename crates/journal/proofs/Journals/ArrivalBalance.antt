-- A processor has arrived once more than it has departed exactly while it waits at the barrier.
use Rattle.std.proofs.Common.{◌≡◌, ◌≢◌, ℕ, ◌+◌, ◌⊎◌, inl, inr, List, [], ◌∷◌, ◌++◌, length, Bool, cond, false, subst, refl, ap, ◌∙◌, arith}
use Rattle.std.proofs.lemmas.Bool.{cases_eq, eq-eqb}
use Rattle.std.proofs.lemmas.Option.{none-some}
use Rattle.journal.specs.declared.event.Event.{Event}
use Rattle.journal.specs.declared.event.Kind.{Kind}
use Rattle.journal.specs.declared.event.Kind.TheVariants.{Arrive, Depart}
use Rattle.journal.specs.DidEvent.{event}
use Rattle.journal.specs.Sizes.{Sizes}
use Rattle.journal.specs.Events.{EventAt, event_count, event_arrives, event_departs}
use Rattle.journal.specs.WellFormed.{LastIs, WellFormedAllows, WellFormedNext, WellFormed}
use Rattle.base.proofs.SlicesAndCounts.{slice_push_induction, slice_push_cases}
use Rattle.journal.proofs.Order.EventPlacesAndCounts.{event_count-append}
use Rattle.journal.proofs.Times.TimesOfPlaces.{time_of_places_one_event}
use Rattle.journal.proofs.Journals.WellFormedStays.{well_formed_stays_push, well_formed_stays_last_unique, well_formed_stays_last_now, well_formed_stays_last_longer, well_formed_stays_last_shorter}

-- p's arrivals and departures
pub record IsArrivalBalanced (j : List Event) (p : ℕ) : Type 0 where
  pub waiting : (i : ℕ) → LastIs j p i Arrive → event_count event_arrives j p ≡ event_count event_departs j p + 1
  pub going : ((i : ℕ) → ¬ LastIs j p i Arrive) → event_count event_arrives j p ≡ event_count event_departs j p

arrival_balance_kind_sorts : (k : Kind) → (k ≡ Arrive) ⊎ ((k ≡ Depart) ⊎ ((event_arrives k ≡ false) × (event_departs k ≡ false)))
arrival_balance_kind_sorts Arrive = inl refl
arrival_balance_kind_sorts Depart = inr (inl refl)
arrival_balance_kind_sorts _ = inr (inr (refl, refl))

arrival_balance_others : (j : List Event) (e : Event) (p : ℕ) → e.processor ≢ p → IsArrivalBalanced j p → IsArrivalBalanced (j ++ e ∷ []) p
arrival_balance_others j e p isnt b =
    let arrives = event_count-append event_arrives j (e ∷ []) p in
    let departs = event_count-append event_departs j (e ∷ []) p in
    record {
      waiting =
          λ i last. (let old = b.waiting i (well_formed_stays_last_shorter j (e ∷ []) p i Arrive away last) in
          omega (arith, none_arrive, none_depart));
      going =
          λ none. (let old = b.going (λ i last. none i (well_formed_stays_last_longer j (e ∷ []) p i Arrive away last)) in
          omega (arith, none_arrive, none_depart));
    }
  where
    away : (m : ℕ) (f : Event) → EventAt (e ∷ []) m f → f.processor ≢ p
    away m f at same =
        elim (slice_push_cases [] e m f at)
        [ inl old ↦ absurd (none-some f old.1) | inr new ↦ isnt (ap (λ x. x.processor) new.1 ∙ same) ]

    none_arrive : event_count event_arrives (e ∷ []) p ≡ 0
    none_arrive = elim (time_of_places_one_event event_arrives e p) [ inl none ↦ none | inr one ↦ absurd (isnt one.0) ]

    none_depart : event_count event_departs (e ∷ []) p ≡ 0
    none_depart = elim (time_of_places_one_event event_departs e p) [ inl none ↦ none | inr one ↦ absurd (isnt one.0) ]

-- p's own event counts one where it is of these kinds
arrival_balance_count_own : (is : Kind → Bool) (k : Kind) (p : ℕ) → event_count is (event p k ∷ []) p ≡ cond (is k) 1 0
arrival_balance_count_own is k p = let own = eq-eqb p p refl in rw own (omega arith)

arrival_balance_own : (s : Sizes) (j : List Event) (p : ℕ) (k : Kind) → WellFormedNext s j (event p k) → IsArrivalBalanced j p
    → IsArrivalBalanced (j ++ event p k ∷ []) p
arrival_balance_own s j p k may b = elim (arrival_balance_kind_sorts k) [
  | inl arrive ↦ record {
    waiting = λ i last. arrived arrive;
    going = λ none. absurd
        (none (length j) (subst (λ x. LastIs (j ++ event p k ∷ []) p (length j) x) arrive now));
  }
  | inr rest ↦ elim rest [
    | inl depart ↦ record
        { waiting = λ i last. absurd (cc (depart, is_last i Arrive last)); going = λ none. departed depart }
    | inr other ↦ record {
      waiting = λ i last. absurd (cc (other.0, ap (λ x. event_arrives x) (is_last i Arrive last)));
      going = λ none. neither other;
    }
  ]
]
  where
    arrives : event_count event_arrives (j ++ event p k ∷ []) p ≡ event_count event_arrives j p + cond (event_arrives k) 1 0
    arrives =
        event_count-append event_arrives j (event p k ∷ []) p
        ∙ ap (λ n. event_count event_arrives j p + n) (arrival_balance_count_own event_arrives k p)

    departs : event_count event_departs (j ++ event p k ∷ []) p ≡ event_count event_departs j p + cond (event_departs k) 1 0
    departs =
        event_count-append event_departs j (event p k ∷ []) p
        ∙ ap (λ n. event_count event_departs j p + n) (arrival_balance_count_own event_departs k p)

    now : LastIs (j ++ event p k ∷ []) p (length j) k
    now = well_formed_stays_last_now j (event p k)

    is_last : (i : ℕ) (a : Kind) → LastIs (j ++ event p k ∷ []) p i a → k ≡ a
    is_last i a last = (well_formed_stays_last_unique (j ++ event p k ∷ []) p (length j) i k a now last).1

    not_waiting : (k ≢ Depart) → (i : ℕ) → ¬ LastIs j p i Arrive
    not_waiting isnt i last = isnt (may.answers i Arrive last)

    arrived : k ≡ Arrive → event_count event_arrives (j ++ event p k ∷ []) p ≡ event_count event_departs (j ++ event p k ∷ []) p + 1
    arrived is =
        let old = b.going (not_waiting (λ d. absurd (cc (is, d)))) in
        let x = ap (λ (a : Kind). cond {A = ℕ} (event_arrives a) 1 0) is in
        let y = ap (λ (a : Kind). cond {A = ℕ} (event_departs a) 1 0) is in
        omega (arith, arrives, departs)

    departed : k ≡ Depart → event_count event_arrives (j ++ event p k ∷ []) p ≡ event_count event_departs (j ++ event p k ∷ []) p
    departed is =
        let allowed = subst (λ x. WellFormedAllows s j p x) is may.allowed in
        let old = b.waiting allowed.0 allowed.1 in
        let x = ap (λ (a : Kind). cond {A = ℕ} (event_arrives a) 1 0) is in
        let y = ap (λ (a : Kind). cond {A = ℕ} (event_departs a) 1 0) is in
        omega (arith, arrives, departs)

    neither : (event_arrives k ≡ false) × (event_departs k ≡ false)
        → event_count event_arrives (j ++ event p k ∷ []) p ≡ event_count event_departs (j ++ event p k ∷ []) p
    neither is =
        let old = b.going (not_waiting (λ d. absurd (cc (is.1, ap (λ x. event_departs x) d)))) in
        let x = ap (λ (c : Bool). cond {A = ℕ} c 1 0) is.0 in
        let y = ap (λ (c : Bool). cond {A = ℕ} c 1 0) is.1 in
        omega (arith, arrives, departs)

-- in a well formed journal a processor is balanced
pub arrivals_balanced : (s : Sizes) (j : List Event) (p : ℕ) → WellFormed s j → IsArrivalBalanced j p
arrivals_balanced s j p =
    slice_push_induction (λ xs. WellFormed s xs → IsArrivalBalanced xs p)
    (λ well. record { waiting = λ i last. absurd (none-some (event p Arrive) last.does); going = λ none. refl })
    step j
  where
    step : (xs : List Event) (e : Event) → (WellFormed s xs → IsArrivalBalanced xs p) → WellFormed s (xs ++ e ∷ [])
        → IsArrivalBalanced (xs ++ e ∷ []) p
    step xs e ih well =
        let both = (well_formed_stays_push s xs e).0 well in
        elim (cases_eq e.processor p) [
          | inl is ↦ (let P : ℕ
              → Type 0 = λ q. IsArrivalBalanced xs q → IsArrivalBalanced (xs ++ e ∷ []) q in subst P is
              (arrival_balance_own s xs e.processor e.kind both.1) (ih both.0))
          | inr isnt ↦ arrival_balance_others xs e p isnt (ih both.0)
        ]
