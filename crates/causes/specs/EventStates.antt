-- The protocol's state at the events of a history.
use Rattle.std.specs.Prelude.{ℕ, ◌≡◌, ◌+◌, List, [], Option, Some, None, Bool, true, false, slice_get, slice_index, take}
use Rattle.journal.specs.declared.event.Event.{Event}
use Rattle.journal.specs.IntervalContents.{IntervalContentHas}
use Rattle.journal.specs.Events.{EventAt, event_count, event_interval_at, event_closes}
use Rattle.journal.specs.PageImages.{InGap}
use Rattle.journal.specs.Sizes.{Sizes}
use Rattle.journal.specs.Times.{IsTimeOf}
use Rattle.causes.specs.Notices.{AreNoticesAt}
use Rattle.causes.specs.ClosedRecords.{AreClosedRecords}
use Rattle.causes.specs.FinalWaits.{AreThoseInFinalWait}
use Rattle.causes.specs.declared.states_of_events.EventState.{EventState}

-- p's copy of page n is stale: it lacks a store of p's past
abbrev pub IsEventStateStale : Sizes → List Event → ℕ → ℕ → Type 0
IsEventStateStale s j p n = (i : ℕ) × InGap s j p n i

-- it is dirty: p has stored in the page since it last closed an interval
abbrev pub IsEventStateDirty : Sizes → List Event → ℕ → ℕ → Type 0
IsEventStateDirty s j p n = (i : ℕ) × IntervalContentHas s j p (event_count event_closes j p) n i

-- this is the state at the event e at place k: the timestamp and the copies of its processor after it, the interval that it lies
-- in, that one's records where it closes it, and the write notices of which it tells
pub record IsEventState (s : Sizes) (j : List Event) (k : ℕ) (e : Event) (x : EventState) : Type 0 where
  pub time : IsTimeOf (take (k + 1) j) e.processor (slice_index x.time)
  pub interval : x.interval ≡ event_interval_at j e.processor k
  pub records : event_closes e.kind ≡ true → AreClosedRecords s j e.processor (event_interval_at j e.processor k) x.records.items
  pub no_records : event_closes e.kind ≡ false → x.records.items ≡ []
  pub notices : AreNoticesAt s j k e x.notices.items
  pub stale : AreThoseInFinalWait (IsEventStateStale s (take (k + 1) j) e.processor) s.pages x.stale.items
  pub dirty : AreThoseInFinalWait (IsEventStateDirty s (take (k + 1) j) e.processor) s.pages x.dirty.items

-- the event at place k has this state, if it is asked for
abbrev pub IsEventStateIfAsked : Sizes → List Event → ℕ → Bool → Option EventState → Type 0
IsEventStateIfAsked s j k true o = (e : Event) → EventAt j k e → (x : EventState) × (o ≡ Some x) × IsEventState s j k e x
IsEventStateIfAsked s j k false o = o ≡ None

-- and so have the first ones
abbrev pub AreEventStates : Sizes → List Event → List Bool → List (Option EventState) → Type 0
AreEventStates s j asked rows = (k : ℕ) (o : Option EventState) (is_asked : Bool) → slice_get rows k ≡ Some o
    → slice_get asked k ≡ Some is_asked → IsEventStateIfAsked s j k is_asked o
