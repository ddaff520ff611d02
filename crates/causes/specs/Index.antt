-- What is looked up of a history.
use Rattle.std.specs.Prelude.{[], ℕ, ◌≡◌, List, Some, length, slice_get, take}
use Rattle.std.specs.Global.{Vec}
use Rattle.journal.specs.declared.event.Event.{Event}
use Rattle.journal.specs.Events.{EventAt, event_count, event_interval_at, event_arrives, event_closes, event_departs}
use Rattle.journal.specs.Times.{ClosesAt}
use Rattle.judge.specs.JudgedSizes.{most_judged_processors}
use Rattle.causes.specs.declared.index.Index.{Index}
use Rattle.causes.specs.declared.index.Turn.{Turn}

-- so often q had arrived and departed before place i
pub record IsIndexedTurn (j : List Event) (i q : ℕ) (t : Turn) : Type 0 where
  pub arrived : t.arrived ≡ event_count event_arrives (take i j) q
  pub departed : t.departed ≡ event_count event_departs (take i j) q

-- so often the processor of each event had
pub record AreIndexedTurns (j : List Event) (turns : List Turn) : Type 0 where
  pub long : length turns ≡ length j
  pub each : (i : ℕ) (e : Event) (t : Turn) → EventAt j i e → slice_get turns i ≡ Some t → IsIndexedTurn j i e.processor t

-- at place i, q closes its interval of this number
pub record IsIndexedClosing (j : List Event) (q n i : ℕ) : Type 0 where
  pub closes : ClosesAt j q i
  pub number : event_interval_at j q i ≡ n

-- q closes its intervals at these places, in order
pub record AreIndexedClosingsOf (j : List Event) (q : ℕ) (places : List ℕ) : Type 0 where
  pub long : length places ≡ event_count event_closes j q
  pub each : (n i : ℕ) → slice_get places n ≡ Some i → IsIndexedClosing j q n i

-- and each processor at its places
pub record AreIndexedClosings (j : List Event) (rows : List (Vec ℕ)) : Type 0 where
  pub long : length rows ≡ most_judged_processors
  pub each : (q : ℕ) (row : Vec ℕ) → slice_get rows q ≡ Some row → AreIndexedClosingsOf j q row.items

pub record IsIndex (j : List Event) (x : Index) : Type 0 where
  pub turns : AreIndexedTurns j x.turns.items
  pub closings : AreIndexedClosings j x.closings.items

-- nothing stands in these rows
abbrev pub AreIndexRowsEmpty : List (Vec ℕ) → Type 0
AreIndexRowsEmpty rows = (q : ℕ) (row : Vec ℕ) → slice_get rows q ≡ Some row → row.items ≡ []
