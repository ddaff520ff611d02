-- What an event that takes gets to know: all that stands up to the events that let it through.
use Rattle.std.specs.Prelude.{ℕ, ◌≡◌, List, take}
use Rattle.journal.specs.declared.event.Event.{Event}
use Rattle.journal.specs.declared.event.Kind.{Kind}
use Rattle.journal.specs.declared.event.Kind.TheVariants.{Acquire, Release, Arrive, Depart, Set, Await}
use Rattle.journal.specs.Events.{event_count, event_arrives, event_departs}
use Rattle.journal.specs.WellFormed.{Does}
use Rattle.journal.specs.Pasts.{InPastOfSome}

-- some processor does this at place i
abbrev pub BringsFromKind : List Event → Kind → ℕ → Type 0
BringsFromKind j k i = (q : ℕ) × Does j i q k

-- q arrives at place i, with n of its arrivals before
pub record BringsFromArrival (j : List Event) (n q i : ℕ) : Type 0 where
  pub does : Does j i q Arrive
  pub number : event_count event_arrives (take i j) q ≡ n

-- some processor does
abbrev pub BringsFromSomeArrival : List Event → ℕ → ℕ → Type 0
BringsFromSomeArrival j n i = (q : ℕ) × BringsFromArrival j n q i

-- the event at place i lets p do this next, if it does
abbrev pub BringsFrom : List Event → ℕ → Kind → ℕ → Type 0
BringsFrom j p (Acquire l) i = BringsFromKind j (Release l) i
BringsFrom j p (Await f) i = BringsFromKind j (Set f) i
BringsFrom j p Depart i = BringsFromSomeArrival j (event_count event_departs j p) i
BringsFrom j p _ i = ⊥

-- place i is what p gets to know by doing this next
abbrev pub Brings : List Event → ℕ → Kind → ℕ → Type 0
Brings j p k = InPastOfSome j (BringsFrom j p k)
