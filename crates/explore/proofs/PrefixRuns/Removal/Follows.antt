-- An event left out: what may follow still may, where it doesn't need that event.
use Rattle.std.proofs.Common.{ℕ, ◌≡◌, ◌≢◌, ◌+◌, ◌<◌, ◌≤◌, inl, inr, IsTrue, List, ◌∷◌, ◌++◌, [], length, refl, sym, ap, subst, arith}
use Rattle.std.proofs.lemmas.Bool.{cases_eq}
use Rattle.journal.specs.declared.event.Event.{Event}
use Rattle.journal.specs.declared.event.Kind.{Kind}
use Rattle.journal.specs.declared.event.Kind.TheVariants.{Ask, Acquire, Release, Arrive, Depart, Set, Watch, Await}
use Rattle.journal.specs.DidEvent.{event}
use Rattle.journal.specs.Sizes.{Sizes}
use Rattle.journal.specs.Events.{EventAt, event_count, event_arrives, event_departs}
use Rattle.journal.specs.HappensBeforeEdges.{LetsThrough}
use Rattle.journal.specs.WellFormed.{LastIs, Holds, WellFormedAllows, WellFormedNext}
use Rattle.journal.proofs.Order.EventPlacesAndCounts.{event_count-append}
use Rattle.journal.proofs.Times.TimesOfPlaces.{time_of_places_one_event}
use Rattle.journal.proofs.Journals.WellFormedStays.{well_formed_stays_last_shorter}
use Rattle.explore.proofs.PrefixRuns.Removal.Places.{removal_place_lift, removal_place_lift_less, removal_place_cases}
use Rattle.explore.proofs.PrefixRuns.Removal.Stays.{removal_stays_last_lift, removal_stays_last_lower, removal_stays_holding_lift, removal_stays_holding_lower, removal_stays_holding_taken, removal_stays_count_left, removal_stays_count_away}

-- the event e after b doesn't need the event x before b
pub record IsRemovalUnneededToFollow (s : Sizes) (a b : List Event) (x e : Event) : Type 0 where
  pub follows : WellFormedNext s a x
  pub away : (m : ℕ) (f : Event) → EventAt b m f → f.processor ≢ x.processor
  pub apart : x.processor ≢ e.processor
  pub lets : ¬ LetsThrough x.kind e.kind
  pub meets : x.kind ≡ Arrive → e.kind ≡ Depart
      → event_count event_arrives a x.processor ≢ event_count event_departs (a ++ x ∷ b) e.processor

removal_follows_arrival : (k : Kind) → IsTrue (event_arrives k) → k ≡ Arrive
removal_follows_arrival Arrive h = refl
removal_follows_arrival _ h = absurd cc

module _ (s : Sizes) (a b : List Event) (x e : Event) (u : IsRemovalUnneededToFollow s a b x e) where
  -- x is no event of e's processor
  removal_follows_no_own : (k : Kind) → x ≢ event e.processor k
  removal_follows_no_own k is = u.apart (ap (λ (f : Event). f.processor) is)

  -- x's processor has no open ask of a lock that nobody holds
  removal_follows_no_ask : (l k : ℕ) → ((q : ℕ) → ¬ Holds (a ++ x ∷ b) q l) → ¬ LastIs (a ++ b) x.processor k (Ask l)
  removal_follows_no_ask l k free last =
      free x.processor
      (removal_stays_holding_taken a b x l (u.follows.answers k (Ask l) (well_formed_stays_last_shorter a b x.processor k (Ask l) u.away last)) u.away)

  -- no ask of it before r's is open
  removal_follows_no_ask_before : (l i k m q : ℕ) → ((q : ℕ) → ¬ Holds (a ++ x ∷ b) q l)
      → ((k q : ℕ) → k < m → ¬ LastIs (a ++ x ∷ b) q k (Ask l)) → removal_place_lift (length a) i ≡ m → k < i
      → ¬ LastIs (a ++ b) q k (Ask l)
  removal_follows_no_ask_before l i k m q free first lifted lt last = elim (cases_eq x.processor q) [
    | inl is ↦ removal_follows_no_ask l k free (subst (λ n. LastIs (a ++ b) n k (Ask l)) (sym is) last)
    | inr isnt ↦ first (removal_place_lift (length a) k) q
        (subst (λ n. removal_place_lift (length a) k < n) lifted (removal_place_lift_less (length a) k i lt)) (removal_stays_last_lift a b x q k (Ask l) isnt last)
  ]

  -- who has arrived often enough in the whole has so without x
  removal_follows_still_arrived : (q : ℕ) → e.kind ≡ Depart
      → event_count event_departs (a ++ x ∷ b) e.processor + 1 ≤ event_count event_arrives (a ++ x ∷ b) q
      → event_count event_departs (a ++ b) e.processor + 1 ≤ event_count event_arrives (a ++ b) q
  removal_follows_still_arrived q departs many = elim (cases_eq x.processor q) [
    | inr isnt ↦
        (let same = removal_stays_count_left event_arrives a b x q isnt in
        omega (arith, others))
    | inl is ↦ subst (λ n. event_count event_departs (a ++ b) e.processor + 1 ≤ event_count event_arrives (a ++ b) n) is
        (own (subst (λ n. event_count event_departs (a ++ x ∷ b) e.processor + 1 ≤ event_count event_arrives (a ++ x ∷ b) n) (sym is) many))
  ]
    where
      others : event_count event_departs (a ++ x ∷ b) e.processor ≡ event_count event_departs (a ++ b) e.processor
      others = removal_stays_count_left event_departs a b x e.processor u.apart

      own : event_count event_departs (a ++ x ∷ b) e.processor + 1 ≤ event_count event_arrives (a ++ x ∷ b) x.processor
          → event_count event_departs (a ++ b) e.processor + 1 ≤ event_count event_arrives (a ++ b) x.processor
      own enough =
          let whole = event_count-append event_arrives a (x ∷ b) x.processor in
          let behind = event_count-append event_arrives (x ∷ []) b x.processor in
          let left = event_count-append event_arrives a b x.processor in
          let none = removal_stays_count_away event_arrives b x.processor u.away in
          elim (time_of_places_one_event event_arrives x x.processor) [
            | inl zero_more ↦ omega (arith, others)
            | inr one ↦
                (let isnt = u.meets (removal_follows_arrival x.kind one.1) departs in
                let counts = one.2 in
                omega (arith, others))
          ]

  -- what allows e allows it without x
  removal_follows_allowed : (k : Kind) → e.kind ≡ k → WellFormedAllows s (a ++ x ∷ b) e.processor k → WellFormedAllows s (a ++ b) e.processor k
  removal_follows_allowed (Ask l) is h = λ holds. h (removal_stays_holding_lift a b x e.processor l (removal_follows_no_own (Release l)) holds)
  removal_follows_allowed (Acquire l) is h =
      let last = removal_stays_last_lower a b x e.processor h.0 (Ask l) u.apart h.1 in (
        last.place,
        last.last,
        record {
          free = λ q holds. h.2.free q (removal_stays_holding_lift a b x q l (λ own. u.lets
              (subst (λ k. LetsThrough k e.kind) (sym (ap (λ (f : Event). f.kind) own))
              (subst (LetsThrough (Release l)) (sym is) refl))) holds);
          first = λ k q lt. removal_follows_no_ask_before l last.place k h.0 q h.2.free h.2.first last.lifted lt;
        },
      )
  removal_follows_allowed (Release l) is h = removal_stays_holding_lower a b x e.processor l (removal_follows_no_own (Acquire l)) h
  removal_follows_allowed Depart is h =
      let last = removal_stays_last_lower a b x e.processor h.0 Arrive u.apart h.1 in
      (last.place, last.last, λ q within. removal_follows_still_arrived q is (h.2 q within))
  removal_follows_allowed (Await f) is h =
      let last = removal_stays_last_lower a b x e.processor h.0 (Watch f) u.apart h.3 in
      elim (removal_place_cases a b x h.1 (event h.2 (Set f)) h.4) [
        | inl own ↦ absurd (u.lets
            (subst (λ k. LetsThrough k e.kind) (sym (ap (λ (g : Event). g.kind) own))
            (subst (LetsThrough (Set f)) (sym is) refl)))
        | inr left ↦ (last.place, left.place, h.2, last.last, left.at)
      ]
  removal_follows_allowed _ is h = h

  -- so e may follow without x
  pub removal_follows_left : WellFormedNext s (a ++ x ∷ b) e → WellFormedNext s (a ++ b) e
  removal_follows_left may = record {
    processor = may.processor;
    in_range = may.in_range;
    answers = λ i k last. may.answers (removal_place_lift (length a) i) k (removal_stays_last_lift a b x e.processor i k u.apart last);
    allowed = removal_follows_allowed e.kind refl may.allowed;
  }
