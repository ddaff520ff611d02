-- Of each processor, the events that take, with what it knows after them; of each event, the number of its interval.
use Rattle.std.specs.Prelude.{ℕ, ◌≡◌, ◌+◌, ◌<◌, ◌≤◌, IsTrue, List, Some, length, slice_get, slice_index, take}
use Rattle.std.specs.Global.{Vec}
use Rattle.base.specs.InOrderOnce.{InOrder}
use Rattle.journal.specs.declared.event.Event.{Event}
use Rattle.journal.specs.declared.event.Kind.{Kind}
use Rattle.journal.specs.Events.{EventAt, event_interval_at, event_takes}
use Rattle.journal.specs.WellFormed.{Does}
use Rattle.judge.specs.Cuts.{IsCutOf}
use Rattle.judge.specs.JudgedSizes.{most_judged_processors}
use Rattle.causes.specs.declared.taking_events.Taking.{Taking}

-- q does something at the place, which lies below n, and this is its cut after that
pub record IsTakingEvent (j : List Event) (q n : ℕ) (x : Taking) : Type 0 where
  pub below : x.place < n
  pub kind : Kind
  pub does : Does j x.place q kind
  pub after : IsCutOf (take (x.place + 1) j) q (slice_index x.after.items)

-- these are q's events below place n that take, in order
pub record AreTakingEvents (j : List Event) (q n : ℕ) (takings : List Taking) : Type 0 where
  pub each : (m : ℕ) (x : Taking) → slice_get takings m ≡ Some x → IsTakingEvent j q n x
  pub rising : InOrder (λ (x y : Taking). x.place < y.place) takings
  pub all : (k : ℕ) (a : Kind) → k < n → Does j k q a → IsTrue (event_takes a)
      → (m : ℕ) × (x : Taking) × (slice_get takings m ≡ Some x) × (x.place ≡ k)

-- and these are those of each processor
pub record AreAllTakingEvents (j : List Event) (n : ℕ) (rows : List (Vec Taking)) : Type 0 where
  pub long : length rows ≡ most_judged_processors
  pub each : (q : ℕ) (row : Vec Taking) → slice_get rows q ≡ Some row → AreTakingEvents j q n row.items

-- by none of these cuts p's event at this place is known
abbrev pub NoTakingEventAbove : List Taking → ℕ → ℕ → Type 0
NoTakingEventAbove takings p place = (m : ℕ) (x : Taking) → slice_get takings m ≡ Some x → slice_index x.after.items p ≤ place

-- the first of these cuts by which it is known is that after the event at place `first`
pub record IsFirstTakingEventAbove (takings : List Taking) (p place first : ℕ) : Type 0 where
  pub index : ℕ
  pub taking : Taking
  pub at : slice_get takings index ≡ Some taking
  pub place_is : taking.place ≡ first
  pub above : place < slice_index taking.after.items p
  pub below : (m : ℕ) (x : Taking) → m < index → slice_get takings m ≡ Some x → slice_index x.after.items p ≤ place

-- these are the numbers of the intervals of the first events
pub record AreTakingEventNumbers (j : List Event) (numbers : List ℕ) : Type 0 where
  pub long : length numbers ≡ length j
  pub each : (k : ℕ) (e : Event) → EventAt j k e → slice_index numbers k ≡ event_interval_at j e.processor k
