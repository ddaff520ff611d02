-- The places of a processor's events since its last closing one.
use Rattle.std.proofs.Common.{ℕ, suc, ◌≡◌, ◌≢◌, ◌<◌, ◌≤◌, ◌⊎◌, ◌↔◌, ◌==◌, inl, inr, List, [], ◌∷◌, ◌++◌, Bool, true, false, cond, fold, map, Option, Some, slice_get, length, arith, refl, sym, ap, ap₂, subst, ◌∙◌, eqb-true, eq-eqb, ne_eqb, true≢false}
use Rattle.std.proofs.lemmas.Bool.{cases_eq}
use Rattle.std.proofs.lemmas.List.{map-append}
use Rattle.std.proofs.lemmas.List.Sums.{fold-append}
use Rattle.std.proofs.Math.Seq.{take-append_seam}
use Rattle.journal.specs.declared.event.Event.{Event}
use Rattle.journal.specs.Events.{EventAt, event_closes, event_count, event_interval_at}
use Rattle.journal.specs.IntervalContents.{interval_contents_next, open_interval_contents}
use Rattle.base.specs.InOrderOnce.{Has, InOrder}
use Rattle.base.proofs.SlicesAndCounts.{slice_push_cases, slice_push_induction, slice_get-append_left}
use Rattle.base.proofs.JoinedLists.{joined_list_has-nil, joined_list_has-append, joined_list_has-cons, joined_list_in_order-nil, joined_list_in_order-append, joined_list_in_order_single}
use Rattle.base.proofs.FilteredInOrder.{in_order_map_same}
use Rattle.journal.proofs.Order.EventPlacesAndCounts.{event_place_inside, event_place_at_end, event_place_longer, event_count-append, event_count-front, event_count-front-le}
use Rattle.journal.proofs.Times.TimesOfPlaces.{time_of_places_one_event}

-- p's event at place i is of its open interval, and closes none
pub record IsOpenIntervalPlace (j : List Event) (p i : ℕ) : Type 0 where
  pub event : Event
  pub at : EventAt j i event
  pub mine : event.processor ≡ p
  pub open_at : event_closes event.kind ≡ false
  pub number : event_interval_at j p i ≡ event_count event_closes j p

-- these are the places of p's events since its last closing one
pub record AreOpenIntervalPlaces (j : List Event) (p : ℕ) (places : List ℕ) : Type 0 where
  pub each : (i : ℕ) → Has places i ↔ IsOpenIntervalPlace j p i
  pub rising : InOrder (λ i m. i < m) places
  pub events : ◌≡◌ {A = List (Option Event)} (map (slice_get j) places) (map Some (open_interval_contents j p))

-- one more event
pub open_interval_push : (j : List Event) (e : Event) (p : ℕ) → open_interval_contents (j ++ e ∷ []) p ≡ interval_contents_next p (open_interval_contents j p) e
open_interval_push j e p = fold-append (interval_contents_next p) [] j (e ∷ [])

open_interval_next_others : (p : ℕ) (es start : List Event) → ((k : ℕ) (e : Event) → EventAt es k e → e.processor ≢ p)
    → fold (interval_contents_next p) start es ≡ start
open_interval_next_others p [] start away = refl
open_interval_next_others p (e ∷ es) start away =
    ap (λ (xs : List Event). fold (interval_contents_next p) xs es) (one (e.processor == p) refl)
    ∙ open_interval_next_others p es start (λ k. away (suc k))
  where
    one : (b : Bool) → (e.processor == p) ≡ b → cond b (cond (event_closes e.kind) [] (start ++ e ∷ [])) start ≡ start
    one true is = absurd (away 0 e refl (eqb-true e.processor p is))
    one false is = refl

-- others' events
pub open_interval_others : (j es : List Event) (p : ℕ) → ((k : ℕ) (e : Event) → EventAt es k e → e.processor ≢ p)
    → open_interval_contents (j ++ es) p ≡ open_interval_contents j p
open_interval_others j es p away = fold-append (interval_contents_next p) [] j es ∙ open_interval_next_others p es (open_interval_contents j p) away

-- an own event that closes the interval
pub open_interval_closing : (j : List Event) (e : Event) (p : ℕ) → e.processor ≡ p → event_closes e.kind ≡ true
    → open_interval_contents (j ++ e ∷ []) p ≡ []
open_interval_closing j e p mine closes = open_interval_push j e p ∙ (rw (eq-eqb e.processor p mine, closes))

-- an own event that doesn't
pub open_interval_inner : (j : List Event) (e : Event) (p : ℕ) → e.processor ≡ p → event_closes e.kind ≡ false
    → open_interval_contents (j ++ e ∷ []) p ≡ open_interval_contents j p ++ e ∷ []
open_interval_inner j e p mine inner = open_interval_push j e p ∙ (rw (eq-eqb e.processor p mine, inner))

-- how many intervals p has closed by one more event
open_interval_closed_count : (j : List Event) (e : Event) (p : ℕ) → (e.processor ≡ p → event_closes e.kind ≡ false)
    → event_count event_closes (j ++ e ∷ []) p ≡ event_count event_closes j p
open_interval_closed_count j e p inner =
    let sum = event_count-append event_closes j (e ∷ []) p in
    elim (time_of_places_one_event event_closes e p)
    [ inl none ↦ omega arith | inr one ↦ absurd (true≢false (sym one.1 ∙ inner one.0)) ]

-- an open place of before, in a journal with one more event that closes none of p's intervals
open_interval_longer : (j : List Event) (e : Event) (p i : ℕ) → (e.processor ≡ p → event_closes e.kind ≡ false) → IsOpenIntervalPlace j p i
    → IsOpenIntervalPlace (j ++ e ∷ []) p i
open_interval_longer j e p i inner x =
    let within = event_place_inside j i x.event x.at in
    record {
      event = x.event;
      at = event_place_longer j (e ∷ []) i x.event x.at;
      mine = x.mine;
      open_at = x.open_at;
      number =
          event_count-front event_closes j (e ∷ []) i p (omega arith) ∙ x.number ∙ sym (open_interval_closed_count j e p inner);
    }

-- an open place is one of before, or the last
open_interval_cases : (j : List Event) (e : Event) (p i : ℕ) → (e.processor ≡ p → event_closes e.kind ≡ false)
    → IsOpenIntervalPlace (j ++ e ∷ []) p i → IsOpenIntervalPlace j p i ⊎ ((i ≡ length j) × (e.processor ≡ p))
open_interval_cases j e p i inner x = elim (slice_push_cases j e i x.event x.at) [
  | inl h ↦ (let within : i < length j = h.0 in
      inl (record {
        event = x.event;
        at = h.1;
        mine = x.mine;
        open_at = x.open_at;
        number = sym (event_count-front event_closes j (e ∷ []) i p (omega arith)) ∙ x.number
            ∙ open_interval_closed_count j e p inner;
      }))
  | inr h ↦ inr (h.0, ap (λ (f : Event). f.processor) h.1 ∙ x.mine)
]

-- the events at places of before
open_interval_events_longer : (j : List Event) (e : Event) (p : ℕ) (places : List ℕ) → AreOpenIntervalPlaces j p places
    → ◌≡◌ {A = List (Option Event)} (map (slice_get (j ++ e ∷ [])) places) (map Some (open_interval_contents j p))
open_interval_events_longer j e p places open_interval_places =
    in_order_map_same (slice_get (j ++ e ∷ [])) (slice_get j) places (λ i h. let x = (open_interval_places.each i).0 h in
    slice_get-append_left j (e ∷ []) i (event_place_inside j i x.event x.at))
    ∙ open_interval_places.events

open_interval_places_others : (j : List Event) (e : Event) (p : ℕ) (places : List ℕ) → e.processor ≢ p → AreOpenIntervalPlaces j p places
    → AreOpenIntervalPlaces (j ++ e ∷ []) p places
open_interval_places_others j e p places away open_interval_places = record {
  each =
      λ i. (
        λ h. open_interval_longer j e p i (λ mine. absurd (away mine)) ((open_interval_places.each i).0 h),
        λ x. elim
            (open_interval_cases j e p i (λ mine. absurd (away mine)) x)
            [ inl old ↦ (open_interval_places.each i).1 old | inr new ↦ absurd (away new.1) ],
      );
  rising = open_interval_places.rising;
  events =
      open_interval_events_longer j e p places open_interval_places
      ∙ ap (map Some) (sym (open_interval_push j e p ∙ rw (ne_eqb e.processor p away)));
}

open_interval_closed : (j : List Event) (e : Event) (p : ℕ) → e.processor ≡ p → event_closes e.kind ≡ true
    → AreOpenIntervalPlaces (j ++ e ∷ []) p []
open_interval_closed j e p mine closes = record {
  each = λ i. (λ h. absurd (joined_list_has-nil i h), λ x. absurd (none i x));
  rising = joined_list_in_order-nil (λ i m. i < m);
  events = ap (map Some) (sym (open_interval_closing j e p mine closes));
}
  where
    none : (i : ℕ) → IsOpenIntervalPlace (j ++ e ∷ []) p i → ⊥
    none i x = elim (slice_push_cases j e i x.event x.at) [
      | inl h ↦ (let front : event_interval_at (j ++ e ∷ []) p i
          ≡ event_interval_at j p i = event_count-front event_closes j (e ∷ []) i p (omega (arith, h.0)) in
          let most : event_interval_at j p i ≤ event_count event_closes j p = event_count-front-le event_closes j i p in
          let sum = event_count-append event_closes j (e ∷ []) p in
          let same = x.number in
          let one : event_count event_closes (e ∷ []) p ≡ 1 = rw (eq-eqb e.processor p mine, closes) in
          omega arith)
      | inr h ↦ true≢false (sym closes ∙ ap (λ (f : Event). event_closes f.kind) h.1 ∙ x.open_at)
    ]

open_interval_more : (j : List Event) (e : Event) (p : ℕ) (places : List ℕ) → e.processor ≡ p → event_closes e.kind ≡ false
    → AreOpenIntervalPlaces j p places → AreOpenIntervalPlaces (j ++ e ∷ []) p (places ++ length j ∷ [])
open_interval_more j e p places mine inner open_interval_places = record {
  each =
      λ i. (
        λ h. elim ((joined_list_has-append places (length j ∷ []) i).0 h) [
          | inl old ↦ open_interval_longer j e p i (λ _. inner)
              ((open_interval_places.each i).0 old)
          | inr new ↦ last i (elim ((joined_list_has-cons (length j) [] i).0 new)
              [ inl same ↦ same | inr none ↦ absurd (joined_list_has-nil i none) ])
        ],
        λ x. (joined_list_has-append places (length j ∷ []) i).1 (elim (open_interval_cases j e p i (λ _. inner) x)
            [ inl old ↦ inl ((open_interval_places.each i).1 old) | inr new ↦ inr (0, ap Some (sym new.0)) ]),
      );
  rising =
      joined_list_in_order-append (λ i m. i < m) places (length j ∷ []) open_interval_places.rising
      (joined_list_in_order_single (λ i m. i < m) (length j)) before;
  events =
      map-append (slice_get (j ++ e ∷ [])) places (length j ∷ [])
      ∙ ap₂ (λ (xs ys : List (Option Event)). xs ++ ys) (open_interval_events_longer j e p places open_interval_places)
      (ap (λ (x : Option Event). x ∷ []) (event_place_at_end j e))
      ∙ sym (map-append Some (open_interval_contents j p) (e ∷ [])) ∙ ap (map Some) (sym (open_interval_inner j e p mine inner));
}
  where
    last : (i : ℕ) → length j ≡ i → IsOpenIntervalPlace (j ++ e ∷ []) p i
    last i is =
        subst (IsOpenIntervalPlace (j ++ e ∷ []) p) is (record {
          event = e;
          at = event_place_at_end j e;
          mine = mine;
          open_at = inner;
          number = ap (λ (xs : List Event). event_count event_closes xs p) (take-append_seam j (e ∷ []))
              ∙ sym (open_interval_closed_count j e p (λ _. inner));
        })

    before : (a b : ℕ) → Has places a → Has (length j ∷ []) b → a < b
    before a b old new =
        let x = (open_interval_places.each a).0 old in
        let within = event_place_inside j a x.event x.at in
        let is : length j ≡ b =
        elim ((joined_list_has-cons (length j) [] b).0 new) [ inl same ↦ same | inr none ↦ absurd (joined_list_has-nil b none) ] in
        omega arith

-- the events since the last closing one stand at places of their own
pub open_interval_places : (j : List Event) (p : ℕ) → (places : List ℕ) × AreOpenIntervalPlaces j p places
open_interval_places j p = slice_push_induction (λ xs. (places : List ℕ) × AreOpenIntervalPlaces xs p places) ([], start) step j
  where
    start : AreOpenIntervalPlaces [] p []
    start =
        record {
          each = λ i. (λ h. absurd (joined_list_has-nil i h), λ x. absurd (joined_list_has-nil x.event (i, x.at)));
          rising = joined_list_in_order-nil (λ i m. i < m);
          events = refl;
        }

    step : (xs : List Event) (e : Event) → ((places : List ℕ) × AreOpenIntervalPlaces xs p places)
        → (places : List ℕ) × AreOpenIntervalPlaces (xs ++ e ∷ []) p places
    step xs e ih = elim (cases_eq e.processor p) [
      | inl mine ↦ own xs e ih mine (event_closes e.kind) refl
      | inr away ↦ (ih.0, open_interval_places_others xs e p ih.0 away ih.1)
    ]
      where
        own : (xs : List Event) (e : Event) → ((places : List ℕ) × AreOpenIntervalPlaces xs p places) → e.processor ≡ p → (b : Bool)
            → event_closes e.kind ≡ b → (places : List ℕ) × AreOpenIntervalPlaces (xs ++ e ∷ []) p places
        own xs e ih mine true closes = ([], open_interval_closed xs e p mine closes)
        own xs e ih mine false inner = (ih.0 ++ length xs ∷ [], open_interval_more xs e p ih.0 mine inner ih.1)

-- others' events under an open block
pub open_interval_block_others : (j es block : List Event) (p : ℕ) → ((k : ℕ) (e : Event) → EventAt es k e → e.processor ≢ p)
    → open_interval_contents ((j ++ es) ++ block) p ≡ open_interval_contents (j ++ block) p
open_interval_block_others j es block p away =
    fold-append (interval_contents_next p) [] (j ++ es) block
    ∙ ap (λ (xs : List Event). fold (interval_contents_next p) xs block) (open_interval_others j es p away)
    ∙ sym (fold-append (interval_contents_next p) [] j block)
