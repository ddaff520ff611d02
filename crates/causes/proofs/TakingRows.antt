-- Events that take, row by row, as the history goes on: the rows below place n, with the event at place n, are those below
-- n + 1. An event that takes stands last in its processor's row, for all before it stand at lower places; any other
-- event, and every other row, changes nothing. The numbers of intervals are counts that go on the same way.
use Rattle.std.proofs.Common.{◌≡◌, ℕ, ◌+◌, ◌<◌, inl, inr, IsTrue, false, List, [], ◌∷◌, ◌++◌, Some, length, slice_get, slice_index, slice_set, take, subst, sym, ap, ◌∙◌, true≢false, arith}
use Rattle.std.specs.Global.{Vec}
use Rattle.std.proofs.lemmas.Bool.{cases_eq}
use Rattle.std.proofs.lemmas.List.{get_or_append_left, length-set}
use Rattle.std.proofs.lemmas.Option.{none-some, slice_get_within}
use Rattle.base.proofs.SlicesAndCounts.{slice_push_cases, slice_get-append_left, slice_get-last}
use Rattle.base.proofs.SliceSets.{slice_get-set_found, slice_get-set_other}
use Rattle.base.specs.InOrderOnce.{InOrder}
use Rattle.std.proofs.Math.Seq.{get_or-append_seam}
use Rattle.journal.specs.declared.event.Event.{Event}
use Rattle.journal.specs.declared.event.Kind.{Kind}
use Rattle.journal.specs.DidEvent.{event}
use Rattle.journal.specs.Events.{EventAt, event_interval_at, event_takes}
use Rattle.judge.specs.Cuts.{IsCutOf}
use Rattle.journal.specs.WellFormed.{Does}
use Rattle.journal.proofs.Order.EventPlacesAndCounts.{event_place_same}
use Rattle.causes.specs.declared.taking_events.Taking.{Taking}
use Rattle.causes.specs.TakingEvents.{AreAllTakingEvents, AreTakingEvents, IsTakingEvent}

-- below a further place they are the same
taking_row_below : (j : List Event) (q n : ℕ) (x : Taking) → IsTakingEvent j q n x → IsTakingEvent j q (n + 1) x
taking_row_below j q n x is = record {
  below = (let lt = is.below in omega arith);
  kind = is.kind;
  does = is.does;
  after = is.after;
}

-- none below the first place
pub taking_row_start : (j : List Event) (q : ℕ) (takings : List Taking) → takings ≡ [] → AreTakingEvents j q 0 takings
taking_row_start j q takings none = subst (AreTakingEvents j q 0) (sym none) (record {
  each = λ m x at. absurd (none-some x at);
  rising = λ m n x y lt at to. absurd (none-some x at);
  all = λ k a lt does takes. absurd (omega arith);
})

-- an event that is not q's, or takes nothing
taking_row_others : (j : List Event) (q n : ℕ) (e : Event) (takings : List Taking) → EventAt j n e
    → (e.processor ≡ q → event_takes e.kind ≡ false) → AreTakingEvents j q n takings → AreTakingEvents j q (n + 1) takings
taking_row_others j q n e takings at quiet old = record {
  each = λ m x to. taking_row_below j q n x (old.each m x to);
  rising = old.rising;
  all = λ k a lt does takes. elim (cases_eq k n) [
    | inl is ↦
        (let here = event_place_same j n e (event q a) at (subst (λ m. Does j m q a) is does) in
        let none = quiet (ap (λ (y : Event). y.processor) here) in
        absurd (true≢false (sym takes ∙ sym (ap (λ (y : Event). event_takes y.kind) here) ∙ none)))
    | inr isnt ↦ old.all k a (omega arith) does takes
  ];
}

-- q takes at place n, and this is noted of it
pub record IsNotedForTakingRow (j : List Event) (q n : ℕ) (x : Taking) : Type 0 where
  pub kind : Kind
  pub does : Does j n q kind
  pub place : x.place ≡ n
  pub cut : IsCutOf (take (n + 1) j) q (slice_index x.after.items)

-- an event of q that takes, with its cut
taking_row_next : {j : List Event} {q n : ℕ} {x : Taking} {takings : List Taking} → IsNotedForTakingRow j q n x → AreTakingEvents j q n takings
    → AreTakingEvents j q (n + 1) (takings ++ x ∷ [])
taking_row_next {j} {q} {n} {x} {takings} noted old = record { each = each; rising = rising; all = all }
  where
    place : x.place ≡ n
    place = noted.place

    now : IsTakingEvent j q (n + 1) x
    now = record {
      below = omega arith;
      kind = noted.kind;
      does = subst (λ m. Does j m q noted.kind) (sym place) noted.does;
      after = subst (λ m. IsCutOf (take (m + 1) j) q (slice_index x.after.items)) (sym place) noted.cut;
    }

    each : (m : ℕ) (y : Taking) → slice_get (takings ++ x ∷ []) m ≡ Some y → IsTakingEvent j q (n + 1) y
    each m y to = elim (slice_push_cases takings x m y to) [
      | inl was ↦ taking_row_below j q n y (old.each m y was.1)
      | inr new ↦ subst (IsTakingEvent j q (n + 1)) new.1 now
    ]

    rising : InOrder (λ (y z : Taking). y.place < z.place) (takings ++ x ∷ [])
    rising k m y z lt to end = elim (slice_push_cases takings x m z end) [
      | inl was ↦
          (let inside = was.0 in
          old.rising k m y z lt (sym (slice_get-append_left takings (x ∷ []) k (omega arith)) ∙ to) was.1)
      | inr new ↦
          (let last = new.0 in
          let under =
          (old.each k y (sym (slice_get-append_left takings (x ∷ []) k (omega arith)) ∙ to)).below in
          let same = ap (λ (w : Taking). w.place) new.1 in
          omega arith)
    ]

    all : (k : ℕ) (a : Kind) → k < n + 1 → Does j k q a → IsTrue (event_takes a)
        → (m : ℕ) × (y : Taking) × (slice_get (takings ++ x ∷ []) m ≡ Some y) × (y.place ≡ k)
    all k a lt does takes = elim (cases_eq k n) [
      | inl is ↦ (length takings, x, slice_get-last takings x, omega arith)
      | inr isnt ↦
          (let w = old.all k a (omega arith) does takes in
          (w.0, w.1, slice_get-append_left takings (x ∷ []) w.0 (slice_get_within takings w.0 w.1 w.2) ∙ w.2, w.3))
    ]

-- the rows, with an event that takes nothing
pub taking_rows_quiet : (j : List Event) (n : ℕ) (e : Event) (rows : List (Vec Taking)) → EventAt j n e
    → event_takes e.kind ≡ false → AreAllTakingEvents j n rows → AreAllTakingEvents j (n + 1) rows
taking_rows_quiet j n e rows at quiet old =
    record { long = old.long; each = λ q row to. taking_row_others j q n e row.items at (λ _. quiet) (old.each q row to) }

-- and with one that takes
pub taking_rows_taken : {j : List Event} {p n : ℕ} {x : Taking} {rows : List (Vec Taking)} (row new : Vec Taking)
    → IsNotedForTakingRow j p n x → slice_get rows p ≡ Some row → new.items ≡ row.items ++ x ∷ [] → AreAllTakingEvents j n rows
    → AreAllTakingEvents j (n + 1) (slice_set rows p new)
taking_rows_taken {j} {p} {n} {x} {rows} row new noted there is old =
    record { long = length-set rows p new ∙ old.long; each = each }
  where
    each : (q : ℕ) (other : Vec Taking) → slice_get (slice_set rows p new) q ≡ Some other → AreTakingEvents j q (n + 1) other.items
    each q other to = elim (cases_eq q p) [
      | inl mine ↦
          (let same : new ≡ other =
          slice_get-set_found rows p new other (subst (λ m. slice_get (slice_set rows p new) m ≡ Some other) mine to) in
          let now : AreTakingEvents j p (n + 1) new.items =
          subst (AreTakingEvents j p (n + 1)) (sym is) (taking_row_next noted (old.each p row there)) in
          subst (λ (v : Vec Taking). AreTakingEvents j q (n + 1) v.items) same
          (subst (λ m. AreTakingEvents j m (n + 1) new.items) (sym mine) now))
      | inr isnt ↦
          taking_row_others j q n (event p noted.kind) other.items noted.does (λ mine. absurd (isnt (sym mine)))
          (old.each q other (sym (slice_get-set_other rows p q new isnt) ∙ to))
    ]

-- these are the numbers of the intervals of the first n events
abbrev pub AreTakingRowNumbersBelow : List Event → ℕ → List ℕ → Type 0
AreTakingRowNumbersBelow j n numbers =
    (k : ℕ) (e : Event) → k < n → EventAt j k e → slice_index numbers k ≡ event_interval_at j e.processor k

-- and of one more
pub taking_row_numbers_next : (j : List Event) (n number : ℕ) (e : Event) (numbers : List ℕ) → length numbers ≡ n → EventAt j n e
    → number ≡ event_interval_at j e.processor n → AreTakingRowNumbersBelow j n numbers → AreTakingRowNumbersBelow j (n + 1) (numbers ++ number ∷ [])
taking_row_numbers_next j n number e numbers long at now old k f lt to = elim (cases_eq k n) [
  | inl same ↦
      (let one = event_place_same j n e f at (subst (λ m. EventAt j m f) same to) in
      let end : k ≡ length numbers = omega arith in
      ap (slice_index (numbers ++ number ∷ [])) end ∙ get_or-append_seam numbers number [] 0 ∙ now
      ∙ ap (λ (g : Event). event_interval_at j g.processor n) one ∙ ap (event_interval_at j f.processor) (sym same))
  | inr isnt ↦ get_or_append_left numbers (number ∷ []) 0 k (omega arith) ∙ old k f (omega arith) to
]
