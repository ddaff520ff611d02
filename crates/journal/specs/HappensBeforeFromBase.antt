-- Happens-before from a base: if something was cut off, the journal's k-th arrivals lead to its (k+1)-th departures.
use Rattle.std.specs.Prelude.{ℕ, ◌≡◌, ◌+◌, ◌<◌, ◌⊎◌, List, take}
use Rattle.journal.specs.declared.event.Event.{Event}
use Rattle.journal.specs.declared.event.Kind.TheVariants.{Arrive, Depart}
use Rattle.journal.specs.Events.{EventAt, event_count, event_arrives, event_departs}
use Rattle.journal.specs.HappensBeforeEdges.{LetsThrough}
use Rattle.journal.specs.Base.{Base, base_arrivals_cut}

-- an arrival and a departure of one episode
pub record HappensBeforeMeetFromBase (b : Base) (j : List Event) (i k : ℕ) (e f : Event) : Type 0 where
  pub arrives : e.kind ≡ Arrive
  pub departs : f.kind ≡ Depart
  pub episode : event_count event_arrives (take i j) e.processor + base_arrivals_cut b ≡ event_count event_departs (take k j) f.processor

-- why the event e at place i comes before the event f at place k
pub data HappensBeforeLinkFromBase (b : Base) (j : List Event) (i k : ℕ) (e f : Event) : Type 0 where
  same : e.processor ≡ f.processor → HappensBeforeLinkFromBase b j i k e f
  lets : LetsThrough e.kind f.kind → HappensBeforeLinkFromBase b j i k e f
  meets : HappensBeforeMeetFromBase b j i k e f → HappensBeforeLinkFromBase b j i k e f

pub record HappensBeforeEdgeFromBase (b : Base) (j : List Event) (i k : ℕ) : Type 0 where
  pub before : i < k
  pub from : Event
  pub to : Event
  pub from_at : EventAt j i from
  pub to_at : EventAt j k to
  pub link : HappensBeforeLinkFromBase b j i k from to

-- one or more edges lead from place i to place k
pub data HappensBeforeFromBase (b : Base) (j : List Event) : ℕ → ℕ → Type 0 where
  edge : {i k : ℕ} → HappensBeforeEdgeFromBase b j i k → HappensBeforeFromBase b j i k
  on : {i m k : ℕ} → HappensBeforeFromBase b j i m → HappensBeforeEdgeFromBase b j m k → HappensBeforeFromBase b j i k

-- place i is k, or happens before it
abbrev pub UpToFromBase : Base → List Event → ℕ → ℕ → Type 0
UpToFromBase b j k i = (i ≡ k) ⊎ HappensBeforeFromBase b j i k

-- place i is p's own, or reaches one of p's
pub record InPastFromBase (b : Base) (j : List Event) (p i : ℕ) : Type 0 where
  pub own : ℕ
  pub event : Event
  pub at : EventAt j own event
  pub mine : event.processor ≡ p
  pub reaches : UpToFromBase b j own i
