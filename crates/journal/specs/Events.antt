-- Words on single events and on lists of events.
use Rattle.std.specs.Prelude.{ℕ, ◌≡◌, ◌==◌, Bool, true, false, ◌&&◌, Option, Some, None, List, filter, count_by, take, slice_get}
use Rattle.journal.specs.declared.event.Event.{Event}
use Rattle.journal.specs.declared.event.Kind.{Kind}
use Rattle.journal.specs.declared.event.Kind.TheVariants.{Load, Store, Ask, Acquire, Release, Arrive, Depart, Set, Watch, Await}

-- the event e stands at place i
abbrev pub EventAt : List Event → ℕ → Event → Type 0
EventAt j i e = slice_get j i ≡ Some e

-- the events of processor p, in order
abbrev pub events_of : List Event → ℕ → List Event
events_of j p = filter (λ e. e.processor == p) j

abbrev pub event_arrives : Kind → Bool
event_arrives Arrive = true
event_arrives _ = false

abbrev pub event_departs : Kind → Bool
event_departs Depart = true
event_departs _ = false

-- an event that closes its processor's interval
abbrev pub event_closes : Kind → Bool
event_closes (Ask l) = true
event_closes (Release l) = true
event_closes Arrive = true
event_closes (Set f) = true
event_closes (Watch f) = true
event_closes _ = false

-- an event by which its processor gets to know of others'
abbrev pub event_takes : Kind → Bool
event_takes (Acquire l) = true
event_takes Depart = true
event_takes (Await f) = true
event_takes _ = false

-- how many of processor p's events are of these kinds
abbrev pub event_count : (Kind → Bool) → List Event → ℕ → ℕ
event_count is j p = count_by (λ e. (e.processor == p) && is e.kind) j

-- the address that an event loads or stores
abbrev pub event_address : Kind → Option ℕ
event_address (Load a v) = Some a
event_address (Store a v) = Some a
event_address _ = None

abbrev pub event_stores : Kind → Bool
event_stores (Store a v) = true
event_stores _ = false

-- the number of the interval of processor q that place i lies in
abbrev pub event_interval_at : List Event → ℕ → ℕ → ℕ
event_interval_at j q i = event_count event_closes (take i j) q
