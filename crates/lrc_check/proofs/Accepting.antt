-- A faithful history and one more event: what is faithful, and what never is.
use Rattle.std.proofs.Common.{◌≡◌, ℕ, ◌≤◌, inl, inr, suc, Bool, true, false, List, [], ◌∷◌, ◌++◌, length, take, subst, sym, ap, ◌∙◌, arith, length-append}
use Rattle.std.proofs.lemmas.List.{take-append-le, take_all}
use Rattle.std.proofs.Math.Seq.{take-append_seam}
use Rattle.base.proofs.SlicesAndCounts.{slice_push_cases}
use Rattle.journal.specs.declared.event.Event.{Event}
use Rattle.journal.specs.declared.event.Kind.TheVariants.{Fetch, Load}
use Rattle.journal.specs.DidEvent.{event}
use Rattle.journal.specs.Sizes.{Sizes}
use Rattle.journal.specs.Events.{EventAt}
use Rattle.journal.specs.PageImages.{GapCounts}
use Rattle.journal.specs.FetchesCountGaps.{FetchesCountGaps}
use Rattle.journal.proofs.Order.EventPlacesAndCounts.{event_place_at_end, event_place_longer}
use Rattle.judge.specs.declared.miscounted.Miscounted.{Miscounted}
use Rattle.judge.specs.declared.models.MemoryModel.{MemoryModel}
use Rattle.judge.specs.declared.models.MemoryModel.TheVariants.{LazyRelease}
use Rattle.judge.specs.LaxWellFormed.{MayFollowOrLax, WellFormedOrLax}
use Rattle.judge.specs.Miscounted.{IsNotMiscounted, IsFirstMiscounted, Miscounts}
use Rattle.judge.specs.Models.{ExplainedUnderModel, IsModelAnswer}
use Rattle.judge.proofs.OwedStays.{owed_stays_law}
use Rattle.lrc_check.specs.Faithful.{IsFaithfulAndCounted, IsFaithfulOnlyUpTo}

-- ---- each event may follow what stands before it, lax or not

pub accepted_each_event : (lax : Bool) (s : Sizes) (j : List Event) → WellFormedOrLax lax s j
    → (k : ℕ) (e : Event) → EventAt j k e → MayFollowOrLax lax s (take k j) e
accepted_each_event true s j well = well
accepted_each_event false s j well = well

accepting_well_of_each : (lax : Bool) (s : Sizes) (j : List Event)
    → ((k : ℕ) (e : Event) → EventAt j k e → MayFollowOrLax lax s (take k j) e) → WellFormedOrLax lax s j
accepting_well_of_each true s j each = each
accepting_well_of_each false s j each = each

accepting_well_next : (lax : Bool) (s : Sizes) (j : List Event) (e : Event) → WellFormedOrLax lax s j → MayFollowOrLax lax s j e
    → WellFormedOrLax lax s (j ++ e ∷ [])
accepting_well_next lax s j e well may = accepting_well_of_each lax s (j ++ e ∷ []) each
  where
    each : (k : ℕ) (f : Event) → EventAt (j ++ e ∷ []) k f → MayFollowOrLax lax s (take k (j ++ e ∷ [])) f
    each k f at = elim (slice_push_cases j e k f at) [
      | inl old ↦
          (let le : k ≤ length j = omega (arith, old.0) in
          subst (λ xs. MayFollowOrLax lax s xs f) (sym (take-append-le k j (e ∷ []) le))
          (accepted_each_event lax s j well k f old.1))
      | inr new ↦
          (let front : take k (j ++ e ∷ []) ≡ j = ap (λ n. take n (j ++ e ∷ [])) new.0 ∙ take-append_seam j (e ∷ []) in
          subst (λ xs. MayFollowOrLax lax s xs f) (sym front) (subst (MayFollowOrLax lax s j) new.1 may))
    ]

accepting_explained_next : (m : MemoryModel) (s : Sizes) (j : List Event) (e : Event) → ExplainedUnderModel m s j
    → ((a v : ℕ) → e.kind ≡ Load a v → IsModelAnswer m s (j ++ e ∷ []) (length j) a v)
    → ExplainedUnderModel m s (j ++ e ∷ [])
accepting_explained_next m s j e all now k p a v does = elim (slice_push_cases j e k (event p (Load a v)) does) [
  | inl old ↦ (owed_stays_law m s j (e ∷ []) k a v old.0).1 (all k p a v old.1)
  | inr new ↦ subst (λ n. IsModelAnswer m s (j ++ e ∷ []) n a v) (sym new.0) (now a v (ap (λ (x : Event). x.kind) new.1))
]

accepting_counted_next : (s : Sizes) (j : List Event) (e : Event) → FetchesCountGaps s j → IsNotMiscounted s j e → FetchesCountGaps s (j ++ e ∷ [])
accepting_counted_next s j e all now k p n w r d does = elim (slice_push_cases j e k (event p (Fetch w n r d)) does) [
  | inl old ↦
      (let le : k ≤ length j = omega (arith, old.0) in
      subst (λ xs. GapCounts s xs p n w r d) (sym (take-append-le k j (e ∷ []) le)) (all k p n w r d old.1))
  | inr new ↦
      (let front : take k (j ++ e ∷ []) ≡ j = ap (λ x. take x (j ++ e ∷ [])) new.0 ∙ take-append_seam j (e ∷ []) in
      let counts = now n w r d (ap (λ (x : Event). x.kind) new.1) in
      subst (λ xs. GapCounts s xs p n w r d) (sym front)
      (subst (λ q. GapCounts s j q n w r d) (ap (λ (x : Event). x.processor) new.1) counts))
]

-- the history with the event is faithful
pub accepted_next_event : (m : MemoryModel) (lax : Bool) (s : Sizes) (j : List Event) (e : Event) → IsFaithfulAndCounted m lax s j
    → MayFollowOrLax lax s j e → ((a v : ℕ) → e.kind ≡ Load a v → IsModelAnswer m s (j ++ e ∷ []) (length j) a v)
    → (m ≡ LazyRelease → lax ≡ false → IsNotMiscounted s j e) → IsFaithfulAndCounted m lax s (j ++ e ∷ [])
accepted_next_event m lax s j e accepted may owed counts = record {
  well_formed = accepting_well_next lax s j e accepted.well_formed may;
  explained = accepting_explained_next m s j e accepted.explained owed;
  counted = λ lazy strict. accepting_counted_next s j e (accepted.counted lazy strict) (counts lazy strict);
}

-- ---- the event is a lie, however the history goes on

-- what stands before it, and the event at its place
accepting_front_of_more : (j es : List Event) (e : Event) → take (length j) ((j ++ e ∷ []) ++ es) ≡ j
accepting_front_of_more j es e =
    let long = length-append j (e ∷ []) in
    let le : length j ≤ length (j ++ e ∷ []) = omega arith in
    take-append-le (length j) (j ++ e ∷ []) es le ∙ take-append_seam j (e ∷ [])

accepting_at_more : (j es : List Event) (e : Event) → EventAt ((j ++ e ∷ []) ++ es) (length j) e
accepting_at_more j es e = event_place_longer (j ++ e ∷ []) es (length j) e (event_place_at_end j e)

-- an event that is never faithful behind a faithful history is the first that isn't
accepting_first_lie : (m : MemoryModel) (lax : Bool) (s : Sizes) (j : List Event) (e : Event) → IsFaithfulAndCounted m lax s j
    → ((es : List Event) → ¬ IsFaithfulAndCounted m lax s ((j ++ e ∷ []) ++ es))
    → IsFaithfulOnlyUpTo m lax s (j ++ e ∷ []) (length j)
accepting_first_lie m lax s j e accepted never =
    let long = length-append j (e ∷ []) in
    let le : length (j ++ e ∷ []) ≤ suc (length j) = omega arith in
    let whole : take (suc (length j)) (j ++ e ∷ []) ≡ j ++ e ∷ [] = take_all (suc (length j)) (j ++ e ∷ []) le in
    record {
      within = omega arith;
      before = subst (IsFaithfulAndCounted m lax s) (sym (take-append_seam j (e ∷ []))) accepted;
      never = λ es faithful. never es (subst (λ xs. IsFaithfulAndCounted m lax s (xs ++ es)) whole faithful);
    }

-- it may not follow
pub accepting_ill_formed_lie : (m : MemoryModel) (lax : Bool) (s : Sizes) (j : List Event) (e : Event)
    → IsFaithfulAndCounted m lax s j → ¬ MayFollowOrLax lax s j e → IsFaithfulOnlyUpTo m lax s (j ++ e ∷ []) (length j)
accepting_ill_formed_lie m lax s j e accepted refused =
    accepting_first_lie m lax s j e accepted
    (λ es faithful. refused (subst (λ xs. MayFollowOrLax lax s xs e) (accepting_front_of_more j es e)
    (accepted_each_event lax s ((j ++ e ∷ []) ++ es) faithful.well_formed (length j) e (accepting_at_more j es e))))

-- it is a load of what it may not answer
pub accepting_unexplained_lie : (m : MemoryModel) (lax : Bool) (s : Sizes) (j : List Event) (e : Event) (a v : ℕ)
    → IsFaithfulAndCounted m lax s j → e.kind ≡ Load a v → ¬ IsModelAnswer m s (j ++ e ∷ []) (length j) a v
    → IsFaithfulOnlyUpTo m lax s (j ++ e ∷ []) (length j)
accepting_unexplained_lie m lax s j e a v accepted is wrong =
    let long = length-append j (e ∷ []) in
    accepting_first_lie m lax s j e accepted
    (λ es faithful. wrong ((owed_stays_law m s (j ++ e ∷ []) es (length j) a v (omega arith)).0
    (faithful.explained (length j) e.processor a v
    (subst (λ k. EventAt ((j ++ e ∷ []) ++ es) (length j) (event e.processor k)) is (accepting_at_more j es e)))))

-- it is a fetch that miscounts
pub accepting_miscounted_lie : (m : MemoryModel) (lax : Bool) (s : Sizes) (j : List Event) (e : Event) (x : Miscounted)
    → IsFaithfulAndCounted m lax s j → m ≡ LazyRelease → lax ≡ false → Miscounts s j e x
    → IsFaithfulOnlyUpTo m lax s (j ++ e ∷ []) (length j)
accepting_miscounted_lie m lax s j e x accepted lazy strict w =
    accepting_first_lie m lax s j e accepted
    (λ es faithful. w.wrong (subst (λ xs. GapCounts s xs e.processor w.page w.writers w.records w.words)
    (accepting_front_of_more j es e) (faithful.counted lazy strict (length j) e.processor w.page w.writers w.records w.words
    (subst (λ k. EventAt ((j ++ e ∷ []) ++ es) (length j) (event e.processor k)) w.fetch (accepting_at_more j es e)))))

-- and the first such
pub accepting_miscounted_here : (s : Sizes) (j : List Event) (e : Event) (x : Miscounted) → FetchesCountGaps s j
    → x.place ≡ length j → Miscounts s j e x → IsFirstMiscounted s (j ++ e ∷ []) x
accepting_miscounted_here s j e x all place w = record {
  event = e;
  at = subst (λ n. EventAt (j ++ e ∷ []) n e) (sym place) (event_place_at_end j e);
  wrong = subst (λ xs. Miscounts s xs e x) (sym front) w;
  first = λ k f lt at. elim (slice_push_cases j e k f at) [
    | inl old ↦
        (let le : k ≤ length j = omega (arith, old.0) in
        subst (λ xs. IsNotMiscounted s xs f) (sym (take-append-le k j (e ∷ []) le))
        (λ n ws rs ds is. all k f.processor n ws rs ds (subst (λ z. EventAt j k (event f.processor z)) is old.1)))
    | inr new ↦ absurd (omega (arith, new.0))
  ];
}
  where
    front : take x.place (j ++ e ∷ []) ≡ j
    front = ap (λ n. take n (j ++ e ∷ [])) place ∙ take-append_seam j (e ∷ [])
