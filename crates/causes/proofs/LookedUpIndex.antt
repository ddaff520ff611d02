-- What is looked up of a history.
use Rattle.std.proofs.Common.{◌≡◌, ◌≢◌, ℕ, ◌+◌, ◌<◌, ◌≤◌, ◌==◌, ◌&&◌, Bool, true, false, cond, inl, inr, List, [], ◌∷◌, ◌++◌, Some, length, replicate, take, slice_get, slice_index_or, slice_set, subst, sym, refl, ap, ◌∙◌, arith}
use Rattle.std.specs.Global.{Vec}
use Rattle.std.proofs.lemmas.Bool.{cases_eq, cases_lt, eq-eqb, ne_eqb, eqb-true, and_parts}
use Rattle.std.proofs.lemmas.List.{length-append, length-set, length-take-le, take_all}
use Rattle.std.proofs.lemmas.List.Sums.{count_by-le-length}
use Rattle.std.proofs.lemmas.Option.{none-some, slice_get-get_or, slice_get_read}
use Rattle.base.specs.InOrderOnce.{InOrder}
use Rattle.journal.specs.DidEvent.{event}
use Rattle.journal.specs.Times.{ClosesAt}
use Rattle.base.proofs.SlicesAndCounts.{slice_push_cases}
use Rattle.base.proofs.SliceSets.{slice_get-set_found, slice_get-set_other, slice_get-replicate_found}
use Rattle.journal.specs.declared.event.Event.{Event}
use Rattle.journal.specs.Events.{EventAt, event_count, event_interval_at, event_arrives, event_closes, event_departs}
use Rattle.journal.specs.declared.event.Kind.{Kind}
use Rattle.journal.proofs.Order.EventPlacesAndCounts.{event_place_same, event_place_inside, event_count-mono, event_count-past, event_place_does}
use Rattle.journal.proofs.Passes.NextRaces.{next_race_count}
use Rattle.judge.specs.JudgedSizes.{most_judged_processors}
use Rattle.causes.specs.declared.index.Turn.{Turn}
use Rattle.causes.specs.Index.{AreIndexedClosings, AreIndexedClosingsOf, IsIndexedClosing, IsIndexedTurn}

-- q closes its first intervals, below place n, at these places, in order
pub record AreLookedUpClosingsBelow (j : List Event) (q n : ℕ) (places : List ℕ) : Type 0 where
  pub long : length places ≡ event_count event_closes (take n j) q
  pub each : (m i : ℕ) → slice_get places m ≡ Some i → IsIndexedClosing j q m i

-- a place more that closes one
pub looked_up_closings_next : (j : List Event) (q n : ℕ) (e : Event) (places : List ℕ) → EventAt j n e
    → ((e.processor == q) && event_closes e.kind) ≡ true → AreLookedUpClosingsBelow j q n places
    → AreLookedUpClosingsBelow j q (n + 1) (places ++ n ∷ [])
looked_up_closings_next j q n e places at closes old = record { long = long; each = each }
  where
    long : length (places ++ n ∷ []) ≡ event_count event_closes (take (n + 1) j) q
    long =
        let next = next_race_count event_closes j n q e at in
        let one : cond {A = ℕ} ((e.processor == q) && event_closes e.kind) 1 0 ≡ 1 = rw closes refl in
        let was = old.long in
        let more = length-append places (n ∷ []) in
        omega arith

    here : IsIndexedClosing j q (length places) n
    here =
        let both = and_parts (e.processor == q) (event_closes e.kind) closes in
        record {
          closes = record {
            kind = e.kind;
            does = event_place_does j n q e at (eqb-true e.processor q both.0);
            closes = both.1;
          };
          number = sym old.long;
        }

    each : (m i : ℕ) → slice_get (places ++ n ∷ []) m ≡ Some i → IsIndexedClosing j q m i
    each m i to = elim (slice_push_cases places n m i to) [
      | inl was ↦ old.each m i was.1
      | inr new ↦ subst (IsIndexedClosing j q m) new.1 (subst (λ x. IsIndexedClosing j q x n) (sym new.0) here)
    ]

-- and one that doesn't
pub looked_up_closings_others : (j : List Event) (q n : ℕ) (e : Event) (places : List ℕ) → EventAt j n e
    → ((e.processor == q) && event_closes e.kind) ≡ false → AreLookedUpClosingsBelow j q n places
    → AreLookedUpClosingsBelow j q (n + 1) places
looked_up_closings_others j q n e places at closes old = record {
  long =
      (let next = next_race_count event_closes j n q e at in
      let none : cond {A = ℕ} ((e.processor == q) && event_closes e.kind) 1 0 ≡ 0 = rw closes refl in
      let was = old.long in
      omega arith);
  each = old.each;
}

-- those below the end are all
pub looked_up_closings_all : (j : List Event) (q n : ℕ) (places : List ℕ) → n ≡ length j → AreLookedUpClosingsBelow j q n places
    → AreIndexedClosingsOf j q places
looked_up_closings_all j q n places is old = record {
  long = old.long ∙ ap (λ xs. event_count event_closes xs q) (take_all n j (omega arith));
  each = old.each;
}

-- each processor closes its first intervals, below place n, at the places of its row
pub record AreLookedUpRowsBelow (j : List Event) (n : ℕ) (rows : List (Vec ℕ)) : Type 0 where
  pub long : length rows ≡ most_judged_processors
  pub each : (q : ℕ) (row : Vec ℕ) → slice_get rows q ≡ Some row → AreLookedUpClosingsBelow j q n row.items

-- none before the first event
pub looked_up_rows_start : (j : List Event) (rows : List (Vec ℕ)) → length rows ≡ most_judged_processors
    → ((q : ℕ) (row : Vec ℕ) → slice_get rows q ≡ Some row → row.items ≡ []) → AreLookedUpRowsBelow j 0 rows
looked_up_rows_start j rows long empty = record {
  long = long;
  each = λ q row at. subst (AreLookedUpClosingsBelow j q 0) (sym (empty q row at))
      (record { long = refl; each = λ m i to. absurd (none-some i to) });
}

-- an event that closes nothing
pub looked_up_rows_others : (j : List Event) (n : ℕ) (e : Event) (rows : List (Vec ℕ)) → EventAt j n e
    → ((e.processor == e.processor) && event_closes e.kind) ≡ false → AreLookedUpRowsBelow j n rows → AreLookedUpRowsBelow j (n + 1) rows
looked_up_rows_others j n e rows at quiet old = record {
  long = old.long;
  each = λ q row to. looked_up_closings_others j q n e row.items at (none q) (old.each q row to);
}
  where
    closes : event_closes e.kind ≡ false
    closes = subst (λ b. (b && event_closes e.kind) ≡ false) (eq-eqb e.processor e.processor refl) quiet

    none : (q : ℕ) → ((e.processor == q) && event_closes e.kind) ≡ false
    none q = go (e.processor == q)
      where
        go : (b : Bool) → (b && event_closes e.kind) ≡ false
        go true = closes
        go false = refl

-- an event that closes an interval is the next one of its processor's row
pub looked_up_rows_next : (j : List Event) (n : ℕ) (e : Event) (rows : List (Vec ℕ)) (row new : Vec ℕ) → EventAt j n e
    → ((e.processor == e.processor) && event_closes e.kind) ≡ true → slice_get rows e.processor ≡ Some row → new.items ≡ row.items ++ n ∷ []
    → AreLookedUpRowsBelow j n rows → AreLookedUpRowsBelow j (n + 1) (slice_set rows e.processor new)
looked_up_rows_next j n e rows row new at closes there is old = record { long = length-set rows e.processor new ∙ old.long; each = each }
  where
    p : ℕ
    p = e.processor

    each : (q : ℕ) (other : Vec ℕ) → slice_get (slice_set rows e.processor new) q ≡ Some other
        → AreLookedUpClosingsBelow j q (n + 1) other.items
    each q other to = elim (cases_eq q p) [
      | inl mine ↦
          (let same : new ≡ other =
          slice_get-set_found rows p new other (subst (λ m. slice_get (slice_set rows p new) m ≡ Some other) mine to) in
          let now : AreLookedUpClosingsBelow j p (n + 1) new.items =
          subst (AreLookedUpClosingsBelow j p (n + 1)) (sym is)
          (looked_up_closings_next j p n e row.items at closes (old.each p row there)) in
          subst (λ (v : Vec ℕ). AreLookedUpClosingsBelow j q (n + 1) v.items) same
          (subst (λ m. AreLookedUpClosingsBelow j m (n + 1) new.items) (sym mine) now))
      | inr isnt ↦
          looked_up_closings_others j q n e other.items at
          (subst (λ b. (b && event_closes e.kind) ≡ false) (sym (ne_eqb p q (λ one. isnt (sym one)))) refl)
          (old.each q other (sym (slice_get-set_other rows p q new isnt) ∙ to))
    ]

-- at the end they are all
pub looked_up_rows_all : (j : List Event) (n : ℕ) (rows : List (Vec ℕ)) → n ≡ length j → AreLookedUpRowsBelow j n rows
    → AreIndexedClosings j rows
looked_up_rows_all j n rows is old =
    record { long = old.long; each = λ q row at. looked_up_closings_all j q n row.items is (old.each q row at) }

-- a place that was read from the rows: from row q, at number n
pub record IsLookedUpClosing (rows : List (Vec ℕ)) (q n p : ℕ) : Type 0 where
  pub row : Vec ℕ
  pub row_is : row ≡ slice_index_or rows q row
  pub place_is : p ≡ slice_index_or row.items n p

-- q's interval of this number is closed there, if it closes so many
pub looked_up_closing_read : {j : List Event} {rows : List (Vec ℕ)} {q n p : ℕ} → AreIndexedClosings j rows → q < most_judged_processors
    → n < event_count event_closes j q → IsLookedUpClosing rows q n p → IsIndexedClosing j q n p
looked_up_closing_read {j} {rows} {q} {n} {p} are low lt read =
    let long = are.long in
    let mine =
    are.each q read.row (slice_get_read rows (length rows) q read.row refl (omega arith) read.row_is) in
    let all = mine.long in
    mine.each n p (slice_get_read read.row.items (length read.row.items) n p refl (omega arith) read.place_is)

-- no two places close one interval
pub looked_up_closing_same : (j : List Event) (q n i m : ℕ) → IsIndexedClosing j q n i → IsIndexedClosing j q n m → i ≡ m
looked_up_closing_same j q n i m x y = elim (cases_lt i m) [
  | inl lt ↦
      (let past = event_count-past event_closes j i m q x.closes.kind x.closes.does x.closes.closes lt in
      let one = x.number in
      let two = y.number in
      absurd (omega arith))
  | inr ge ↦ elim (cases_lt m i) [
    | inl lt ↦
        (let past = event_count-past event_closes j m i q y.closes.kind y.closes.does y.closes.closes lt in
        let one = x.number in
        let two = y.number in
        absurd (omega arith))
    | inr le ↦ omega arith
  ]
]

-- the places at which q closes its intervals rise
pub looked_up_closings_rise : {j : List Event} {q : ℕ} {places : List ℕ} → AreIndexedClosingsOf j q places
    → InOrder (λ i m. i < m) places
looked_up_closings_rise {j} {q} {places} are m n i k lt at to =
    let one = are.each m i at in
    let two = are.each n k to in
    let first = one.number in
    let second = two.number in
    elim (cases_lt i k) [
      | inl before ↦ before
      | inr le ↦ (let mono = event_count-mono event_closes j k i q le in absurd (omega arith))
    ]

-- where q closes an interval, that of its number is at hand
pub looked_up_closing_at : {j : List Event} {q i : ℕ} {places : List ℕ} → AreIndexedClosingsOf j q places → ClosesAt j q i
    → slice_get places (event_interval_at j q i) ≡ Some i
looked_up_closing_at {j} {q} {i} {places} are closes =
    let inside = event_place_inside j i (event q closes.kind) closes.does in
    let past = event_count-past event_closes j i (length j) q closes.kind closes.does closes.closes inside in
    let all : event_count event_closes (take (length j) j) q ≡ event_count event_closes j q =
    ap (λ (xs : List Event). event_count event_closes xs q) (take_all (length j) j (omega arith)) in
    let long = are.long in
    let n = event_interval_at j q i in
    let at = slice_get-get_or places n 0 (omega arith) in
    let same = looked_up_closing_same j q n (slice_index_or places n 0) i (are.each n (slice_index_or places n 0) at)
    (record { closes = closes; number = refl }) in
    at ∙ ap (λ k. Some k) same

-- the turns of the next events
abbrev pub AreLookedUpNextTurns : List Event → ℕ → List Turn → Type 0
AreLookedUpNextTurns j n next = (q : ℕ) (t : Turn) → slice_get next q ≡ Some t → IsIndexedTurn j n q t

pub looked_up_turns_start : (j : List Event) (zero : Turn) → zero.arrived ≡ 0 → zero.departed ≡ 0
    → AreLookedUpNextTurns j 0 (replicate most_judged_processors zero)
looked_up_turns_start j zero arrived departed q t at =
    let is = slice_get-replicate_found most_judged_processors zero t q at in
    record {
      arrived = sym (ap (λ (x : Turn). x.arrived) is) ∙ arrived;
      departed = sym (ap (λ (x : Turn). x.departed) is) ∙ departed;
    }

-- the event e stands at place n, before which its processor has had this turn
pub record HasLookedUpTurn (j : List Event) (n : ℕ) (e : Event) (t : Turn) : Type 0 where
  pub at : EventAt j n e
  pub turn : IsIndexedTurn j n e.processor t

-- one place on
pub looked_up_turns_next : {j : List Event} {n : ℕ} {e : Event} {old : Turn} (next : List Turn) (new : Turn)
    → HasLookedUpTurn j n e old → new.arrived ≡ old.arrived + cond (event_arrives e.kind) 1 0
    → new.departed ≡ old.departed + cond (event_departs e.kind) 1 0 → AreLookedUpNextTurns j n next
    → AreLookedUpNextTurns j (n + 1) (slice_set next e.processor new)
looked_up_turns_next {j} {n} {e} {old} next new has arrived departed are q t to = elim (cases_eq q e.processor) [
  | inl mine ↦
      (let is : new ≡ t =
      slice_get-set_found next e.processor new t (subst (λ m. slice_get (slice_set next e.processor new) m ≡ Some t) mine to) in
      subst (IsIndexedTurn j (n + 1) q) is
      (record {
        arrived = counted event_arrives q mine old.arrived new.arrived has.turn.arrived arrived;
        departed = counted event_departs q mine old.departed new.departed has.turn.departed departed;
      }))
  | inr other ↦
      (let x = are q t (sym (slice_get-set_other next e.processor q new other) ∙ to) in
      record {
        arrived = same event_arrives q other t.arrived x.arrived;
        departed = same event_departs q other t.departed x.departed;
      })
]
  where
    counted : (is : Kind → Bool) (q : ℕ) → q ≡ e.processor → (a b : ℕ) → a ≡ event_count is (take n j) e.processor
        → b ≡ a + cond (is e.kind) 1 0 → b ≡ event_count is (take (n + 1) j) q
    counted is q mine a b one two =
        let next = next_race_count is j n q e has.at in
        let here = ap (event_count is (take n j)) mine in
        let which : cond {A = ℕ} ((e.processor == q) && is e.kind) 1 0 ≡ cond (is e.kind) 1 0 =
        rw (eq-eqb e.processor q (sym mine)) in
        omega arith

    same : (is : Kind → Bool) (q : ℕ) → q ≢ e.processor → (a : ℕ) → a ≡ event_count is (take n j) q
        → a ≡ event_count is (take (n + 1) j) q
    same is q other a one =
        let next = next_race_count is j n q e has.at in
        let none : cond {A = ℕ} ((e.processor == q) && is e.kind) 1 0 ≡ 0 =
        rw (ne_eqb e.processor q (λ x. other (sym x))) in
        omega arith

-- the turn of the event at place n
pub looked_up_turn_here : {j : List Event} {n : ℕ} {e : Event} {t : Turn} → HasLookedUpTurn j n e t → (f : Event) → EventAt j n f
    → IsIndexedTurn j n f.processor t
looked_up_turn_here {j} {n} {e} {t} has f at =
    subst (λ (x : Event). IsIndexedTurn j n x.processor t) (event_place_same j n e f has.at at) has.turn

-- a count of a journal's front is small, where the journal is
pub looked_up_turn_small : (j : List Event) (n q : ℕ) (t : Turn) → n ≤ length j → length j ≤ 2097168 → IsIndexedTurn j n q t
    → (t.arrived < 4194304) × (t.departed < 4194304)
looked_up_turn_small j n q t le few is =
    (let arrivals = count_by-le-length (λ (e : Event). (e.processor == q) && event_arrives e.kind) (take n j) in
    let departures = count_by-le-length (λ (e : Event). (e.processor == q) && event_departs e.kind) (take n j) in
    let long = length-take-le n j le in
    let one = is.arrived in
    let two = is.departed in
    (omega arith, omega arith))
