-- Where the interval of an event is closed.
use Rattle.std.specs.Prelude.{ℕ, ◌≡◌, ◌≢◌, ◌<◌, List, true}
use Rattle.journal.specs.declared.event.Event.{Event}
use Rattle.journal.specs.Events.{EventAt, event_closes}

-- the interval of the event at place i, which itself closes none, is closed by its processor's event at place c
pub record IsClosingPlace (j : List Event) (i c : ℕ) : Type 0 where
  pub event : Event
  pub closer : Event
  pub at : EventAt j i event
  pub closer_at : EventAt j c closer
  pub before : i < c
  pub mine : closer.processor ≡ event.processor
  pub open_at : event_closes event.kind ≢ true
  pub closes : event_closes closer.kind ≡ true
  pub none_between : (m : ℕ) (f : Event) → i < m → m < c → EventAt j m f → f.processor ≡ event.processor
      → event_closes f.kind ≢ true
