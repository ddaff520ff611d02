-- An event left out: the last events of others, who holds a lock, and counts of others' events stay.
use Rattle.std.proofs.Common.{ℕ, zero, suc, ◌≡◌, ◌≢◌, ◌+◌, ◌<◌, ◌≤◌, ◌⊎◌, inl, inr, List, [], ◌∷◌, ◌++◌, length, take, Bool, refl, sym, ap, subst, ◌∙◌, append_assoc, arith}
use Rattle.std.proofs.lemmas.List.{take-append-le}
use Rattle.journal.specs.declared.event.Event.{Event}
use Rattle.journal.specs.declared.event.Kind.{Kind}
use Rattle.journal.specs.declared.event.Kind.TheVariants.{Acquire, Release}
use Rattle.journal.specs.DidEvent.{event}
use Rattle.journal.specs.Events.{EventAt, event_count}
use Rattle.journal.specs.WellFormed.{LastIs, Holds}
use Rattle.journal.proofs.Order.EventPlacesAndCounts.{event_count-append}
use Rattle.journal.proofs.Times.TimesOfPlaces.{time_of_places_one_event}
use Rattle.journal.proofs.Journals.HoldsOfOthers.{holds_of_others}
use Rattle.journal.proofs.Journals.WellFormedStays.{well_formed_stays_holds_now}
use Rattle.explore.proofs.PrefixRuns.Removal.Places.{removal_place_lift, removal_place_lift_before, removal_place_lift_less, removal_place_less_lift, removal_place_item_lift, RemovalLeftAtPlace, removal_place_cases}

-- the last event of r, at place m of the whole, is left
pub record RemovalStaysLast (a b : List Event) (r m : ℕ) (k : Kind) : Type 0 where
  pub place : ℕ
  pub lifted : removal_place_lift (length a) place ≡ m
  pub last : LastIs (a ++ b) r place k

module _ (a b : List Event) (x : Event) where
  -- order of places, there and back
  removal_stays_below : (i m : ℕ) (f : Event) → removal_place_lift (length a) i < m → (left : RemovalLeftAtPlace a b m f) → i < left.place
  removal_stays_below i m f lt left = removal_place_less_lift (length a) i left.place (subst (λ n. removal_place_lift (length a) i < n) (sym left.lifted) lt)

  removal_stays_above : (m k : ℕ) (f : Event) (left : RemovalLeftAtPlace a b m f) → left.place < k → m < removal_place_lift (length a) k
  removal_stays_above m k f left lt = subst (λ n. n < removal_place_lift (length a) k) left.lifted (removal_place_lift_less (length a) left.place k lt)

  -- the last event of another is the same in the whole
  pub removal_stays_last_lift : (r i : ℕ) (k : Kind) → x.processor ≢ r → LastIs (a ++ b) r i k
      → LastIs (a ++ x ∷ b) r (removal_place_lift (length a) i) k
  removal_stays_last_lift r i k apart l = record {
    does = removal_place_item_lift a b x i ∙ l.does;
    last = λ m f lt at mine. elim (removal_place_cases a b x m f at) [
      | inl is ↦ apart (ap (λ (e : Event). e.processor) is ∙ mine)
      | inr left ↦ l.last left.place f (removal_stays_below i m f lt left) left.at mine
    ];
  }

  -- and that of the whole is left
  pub removal_stays_last_lower : (r m : ℕ) (k : Kind) → x.processor ≢ r → LastIs (a ++ x ∷ b) r m k → RemovalStaysLast a b r m k
  removal_stays_last_lower r m k apart l = elim (removal_place_cases a b x m (event r k) l.does) [
    | inl is ↦ absurd (apart (ap (λ (e : Event). e.processor) is))
    | inr left ↦ record {
      place = left.place;
      lifted = left.lifted;
      last = record {
        does = left.at;
        last = λ n f lt at. l.last (removal_place_lift (length a) n) f (removal_stays_above m n (event r k) left lt) (removal_place_item_lift a b x n ∙ at);
      };
    }
  ]

  -- who holds a lock holds it in the whole, where the event doesn't give it back
  pub removal_stays_holding_lift : (r l : ℕ) → x ≢ event r (Release l) → Holds (a ++ b) r l → Holds (a ++ x ∷ b) r l
  removal_stays_holding_lift r l isnt h = record {
    place = removal_place_lift (length a) h.place;
    acquires = removal_place_item_lift a b x h.place ∙ h.acquires;
    keeps = λ m lt does. elim (removal_place_cases a b x m (event r (Release l)) does) [
      | inl is ↦ isnt is
      | inr left ↦ h.keeps left.place (removal_stays_below h.place m (event r (Release l)) lt left) left.at
    ];
  }

  -- who holds it in the whole holds it, where the event doesn't take it
  pub removal_stays_holding_lower : (r l : ℕ) → x ≢ event r (Acquire l) → Holds (a ++ x ∷ b) r l → Holds (a ++ b) r l
  removal_stays_holding_lower r l isnt h = elim (removal_place_cases a b x h.place (event r (Acquire l)) h.acquires) [
    | inl is ↦ absurd (isnt is)
    | inr left ↦ record {
      place = left.place;
      acquires = left.at;
      keeps = λ k lt does.
          h.keeps (removal_place_lift (length a) k) (removal_stays_above h.place k (event r (Acquire l)) left lt) (removal_place_item_lift a b x k ∙ does);
    }
  ]

  -- an event that takes a lock, with no more events of its processor behind it, holds it
  pub removal_stays_holding_taken : (l : ℕ) → x.kind ≡ Acquire l → ((m : ℕ) (f : Event) → EventAt b m f → f.processor ≢ x.processor)
      → Holds (a ++ x ∷ b) x.processor l
  removal_stays_holding_taken l takes away =
      let now : Holds (a ++ x ∷ []) x.processor l =
      subst (λ k. Holds (a ++ event x.processor k ∷ []) x.processor l) (sym takes) (well_formed_stays_holds_now a x.processor l) in
      rw append_assoc at ((holds_of_others (a ++ x ∷ []) b x.processor l away).1 now)

-- an event adds to no count of others' events
removal_stays_count_without : (is : Kind → Bool) (x : Event) (es : List Event) (r : ℕ) → x.processor ≢ r
    → event_count is (x ∷ es) r ≡ event_count is es r
removal_stays_count_without is x es r apart =
    let sum = event_count-append is (x ∷ []) es r in
    elim (time_of_places_one_event is x r) [ inl none ↦ omega arith | inr one ↦ absurd (apart one.0) ]

-- so these stay
pub removal_stays_count_left : (is : Kind → Bool) (a b : List Event) (x : Event) (r : ℕ) → x.processor ≢ r
    → event_count is (a ++ x ∷ b) r ≡ event_count is (a ++ b) r
removal_stays_count_left is a b x r apart =
    let more = removal_stays_count_without is x b r apart in
    let whole = event_count-append is a (x ∷ b) r in
    let left = event_count-append is a b r in
    omega arith

-- events that are none of r's have no count
pub removal_stays_count_away : (is : Kind → Bool) (es : List Event) (r : ℕ) → ((m : ℕ) (f : Event) → EventAt es m f → f.processor ≢ r)
    → event_count is es r ≡ 0
removal_stays_count_away is [] r away = refl
removal_stays_count_away is (e ∷ es) r away =
    removal_stays_count_without is e es r (away 0 e refl) ∙ removal_stays_count_away is es r (λ m f at. away (suc m) f at)

removal_stays_count_lift_others : (is : Kind → Bool) (a b : List Event) (x : Event) (u r : ℕ) → x.processor ≢ r
    → event_count is (take (removal_place_lift (length a) u) (a ++ x ∷ b)) r ≡ event_count is (take u (a ++ b)) r
removal_stays_count_lift_others is [] b x u r apart = removal_stays_count_without is x (take u b) r apart
removal_stays_count_lift_others is (y ∷ a) b x zero r apart = refl
removal_stays_count_lift_others is (y ∷ a) b x (suc u) r apart =
    event_count-append is (y ∷ []) (take (removal_place_lift (length a) u) (a ++ x ∷ b)) r
    ∙ ap (λ (n : ℕ). event_count is (y ∷ []) r + n) (removal_stays_count_lift_others is a b x u r apart)
    ∙ sym (event_count-append is (y ∷ []) (take u (a ++ b)) r)

-- up to a place before the event, and up to any place of others' events, counts are the same
pub removal_stays_count_lift : (is : Kind → Bool) (a b : List Event) (x : Event) (u r : ℕ) → (u < length a) ⊎ (x.processor ≢ r)
    → event_count is (take (removal_place_lift (length a) u) (a ++ x ∷ b)) r ≡ event_count is (take u (a ++ b)) r
removal_stays_count_lift is a b x u r (inl before) =
    let le : u ≤ length a = omega arith in
    ap (λ n. event_count is (take n (a ++ x ∷ b)) r) (removal_place_lift_before (length a) u before)
    ∙ ap (λ (es : List Event). event_count is es r) (take-append-le u a (x ∷ b) le ∙ sym (take-append-le u a b le))
removal_stays_count_lift is a b x u r (inr apart) = removal_stays_count_lift_others is a b x u r apart
