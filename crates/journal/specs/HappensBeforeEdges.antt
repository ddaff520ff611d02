-- Happens-before-1 of Adve and Hill, over the places of a journal.
use Rattle.std.specs.Prelude.{ℕ, ◌≡◌, ◌<◌, List, take}
use Rattle.journal.specs.declared.event.Event.{Event}
use Rattle.journal.specs.declared.event.Kind.{Kind}
use Rattle.journal.specs.declared.event.Kind.TheVariants.{Acquire, Release, Arrive, Depart, Set, Await}
use Rattle.journal.specs.Events.{EventAt, event_count, event_arrives, event_departs}

-- the release of a lock and an acquire of it, or the set of a flag and an await of it
abbrev pub LetsThrough : Kind → Kind → Type 0
LetsThrough (Release l) (Acquire m) = l ≡ m
LetsThrough (Set f) (Await g) = f ≡ g
LetsThrough _ _ = ⊥

-- an arrival and a departure of one episode: as many arrivals of the one's processor stand before it as departures
-- of the other's stand before that
pub record HappensBeforeEdgesMeet (j : List Event) (i k : ℕ) (e f : Event) : Type 0 where
  pub arrives : e.kind ≡ Arrive
  pub departs : f.kind ≡ Depart
  pub episode : event_count event_arrives (take i j) e.processor ≡ event_count event_departs (take k j) f.processor

-- why the event e at place i comes before the event f at place k
pub data Link (j : List Event) (i k : ℕ) (e f : Event) : Type 0 where
  same : e.processor ≡ f.processor → Link j i k e f
  lets : LetsThrough e.kind f.kind → Link j i k e f
  meets : HappensBeforeEdgesMeet j i k e f → Link j i k e f

pub record Edge (j : List Event) (i k : ℕ) : Type 0 where
  pub before : i < k
  pub from : Event
  pub to : Event
  pub from_at : EventAt j i from
  pub to_at : EventAt j k to
  pub link : Link j i k from to

-- one or more edges lead from place i to place k
pub data HappensBefore (j : List Event) : ℕ → ℕ → Type 0 where
  edge : {i k : ℕ} → Edge j i k → HappensBefore j i k
  on : {i m k : ℕ} → HappensBefore j i m → Edge j m k → HappensBefore j i k
