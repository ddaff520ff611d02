-- The numbers of closed intervals.
use Rattle.std.proofs.Common.{ℕ, ◌≡◌, ◌≢◌, true, refl, ◌<◌, ◌⊎◌, inl, inr, List, arith, ap, subst, ◌∙◌, le_of_lt}
use Rattle.std.proofs.lemmas.Bool.{cases_order}
use Rattle.journal.specs.declared.event.Event.{Event}
use Rattle.journal.specs.Events.{EventAt, event_closes, event_interval_at}
use Rattle.journal.specs.ClosingPlace.{IsClosingPlace}
use Rattle.journal.specs.Times.{ClosesAt}
use Rattle.journal.proofs.Order.EventPlacesAndCounts.{event_count-mono, event_count-past, event_count-inside, event_place_numbered, event_place_does, event_place_does_same}
use Rattle.journal.proofs.Times.LeavingCloses.{leaving_closes_past}
use Rattle.journal.specs.WellFormed.{Does}
use Rattle.journal.specs.Pasts.{InPast}
use Rattle.journal.specs.declared.event.Kind.{Kind}
use Rattle.journal.specs.DidEvent.{event}

-- closing events of one processor with one number are one
pub interval_number_once : (j : List Event) (q c d : ℕ) → ClosesAt j q c → ClosesAt j q d
    → event_interval_at j q c ≡ event_interval_at j q d → c ≡ d
interval_number_once j q c d x y same = elim (cases_order c d) [
  | inl e ↦ e
  | inr apart ↦ elim apart [
    | inl less ↦ (let past = event_count-past event_closes j c d q x.kind x.does x.closes less in absurd (omega arith))
    | inr less ↦ (let past = event_count-past event_closes j d c q y.kind y.does y.closes less in absurd (omega arith))
  ]
]

-- a closing event with an event's number closes that event's interval
pub interval_number_closes : (j : List Event) (q i c : ℕ) (a : Kind) → Does j i q a → event_closes a ≢ true → ClosesAt j q c
    → event_interval_at j q i ≡ event_interval_at j q c → IsClosingPlace j i c
interval_number_closes j q i c a does open_at closes same =
    record {
      event = event q a;
      closer = event q closes.kind;
      at = does;
      closer_at = closes.does;
      before = before (cases_order i c);
      mine = refl;
      open_at = open_at;
      closes = closes.closes;
      none_between = none;
    }
  where
    before : (i ≡ c) ⊎ ((i < c) ⊎ (c < i)) → i < c
    before (inl e) =
        let P : ℕ → Type 0 = λ m. Does j m q a in
        absurd
        (open_at (ap event_closes (event_place_does_same j c q q a closes.kind (subst P e does) closes.does).1 ∙ closes.closes))
    before (inr (inl less)) = less
    before (inr (inr less)) =
        let past = event_count-past event_closes j c i q closes.kind closes.does closes.closes less in absurd (omega arith)

    none : (m : ℕ) (f : Event) → i < m → m < c → EventAt j m f → f.processor ≡ q → event_closes f.kind ≢ true
    none m f after less at mine is =
        let up = event_count-mono event_closes j i m q (le_of_lt after) in
        let past = event_count-past event_closes j m c q f.kind (event_place_does j m q f at mine) is less in
        omega arith

-- another processor's event in a past has a closing event with its number
pub interval_number_closed : (j : List Event) (p q i : ℕ) (a : Kind) → Does j i q a → q ≢ p → InPast j p i
    → (c : ℕ) × ClosesAt j q c × (event_interval_at j q c ≡ event_interval_at j q i)
interval_number_closed j p q i a does apart past =
    let l = leaving_closes_past j p q i a does apart past in
    let up = event_count-mono event_closes j i l.close q l.from in
    let inside = event_count-inside event_closes j l.close q l.closes.kind l.closes.does l.closes.closes in
    let n = event_place_numbered event_closes j q (event_interval_at j q i) (omega arith) in
    (n.place, record { kind = n.kind; does = n.does; closes = n.counts }, n.number)
