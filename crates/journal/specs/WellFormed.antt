-- Which journals a cluster can make: which event may come next after a list of events.
use Rattle.std.specs.Prelude.{ℕ, ◌≡◌, ◌≢◌, ◌+◌, ◌<◌, ◌≤◌, IsTrue, List, take}
use Rattle.journal.specs.declared.event.Event.{Event}
use Rattle.journal.specs.declared.event.Kind.{Kind}
use Rattle.journal.specs.declared.event.Kind.TheVariants.{Load, Store, Fetch, Ask, Acquire, Release, Arrive, Depart, Set, Watch, Await}
use Rattle.journal.specs.DidEvent.{event}
use Rattle.journal.specs.Sizes.{Sizes, addresses}
use Rattle.journal.specs.Events.{EventAt, event_count, event_arrives, event_departs, event_takes}

-- the numbers that the event names are within the sizes
abbrev pub WellFormedKindInRange : Sizes → Kind → Type 0
WellFormedKindInRange s (Load a v) = a < addresses s
WellFormedKindInRange s (Store a v) = a < addresses s
WellFormedKindInRange s (Fetch w n r d) = n < s.pages
WellFormedKindInRange s (Ask l) = l < s.locks
WellFormedKindInRange s (Acquire l) = l < s.locks
WellFormedKindInRange s (Release l) = l < s.locks
WellFormedKindInRange s Arrive = Unit {0}
WellFormedKindInRange s Depart = Unit {0}
WellFormedKindInRange s (Set f) = f < s.flags
WellFormedKindInRange s (Watch f) = f < s.flags
WellFormedKindInRange s (Await f) = f < s.flags

-- processor p does this at place i
abbrev pub Does : List Event → ℕ → ℕ → Kind → Type 0
Does j i p k = EventAt j i (event p k)

-- p's last event stands at place i and is this
pub record LastIs (j : List Event) (p i : ℕ) (k : Kind) : Type 0 where
  pub does : Does j i p k
  pub last : (m : ℕ) (f : Event) → i < m → EventAt j m f → f.processor ≢ p

-- p has acquired l, and has not released it since
pub record Holds (j : List Event) (p l : ℕ) : Type 0 where
  pub place : ℕ
  pub acquires : Does j place p (Acquire l)
  pub keeps : (k : ℕ) → place < k → ¬ Does j k p (Release l)

-- nobody holds l, and no ask of it before place i is open
pub record WellFormedGrant (j : List Event) (i l : ℕ) : Type 0 where
  pub free : (q : ℕ) → ¬ Holds j q l
  pub first : (k q : ℕ) → k < i → ¬ LastIs j q k (Ask l)

-- every processor has arrived at least that many times
abbrev pub WellFormedAllArrived : Sizes → List Event → ℕ → Type 0
WellFormedAllArrived s j n = (q : ℕ) → q < s.processors → n ≤ event_count event_arrives j q

-- after a call that waits comes what it waits for
abbrev pub WellFormedAnswer : Kind → Kind → Type 0
WellFormedAnswer (Ask l) k = k ≡ Acquire l
WellFormedAnswer Arrive k = k ≡ Depart
WellFormedAnswer (Watch f) k = k ≡ Await f
WellFormedAnswer _ k = Unit {0}

-- what has to hold for p to do this next
abbrev pub WellFormedAllows : Sizes → List Event → ℕ → Kind → Type 0
WellFormedAllows s j p (Ask l) = ¬ Holds j p l
WellFormedAllows s j p (Acquire l) = (i : ℕ) × LastIs j p i (Ask l) × WellFormedGrant j i l
WellFormedAllows s j p (Release l) = Holds j p l
WellFormedAllows s j p Depart = (i : ℕ) × LastIs j p i Arrive × WellFormedAllArrived s j (event_count event_departs j p + 1)
WellFormedAllows s j p (Await f) = (i k q : ℕ) × LastIs j p i (Watch f) × Does j k q (Set f)
WellFormedAllows s j p _ = Unit {0}

-- the event may come next after j
pub record WellFormedNext (s : Sizes) (j : List Event) (e : Event) : Type 0 where
  pub processor : e.processor < s.processors
  pub in_range : WellFormedKindInRange s e.kind
  pub answers : (i : ℕ) (k : Kind) → LastIs j e.processor i k → WellFormedAnswer k e.kind
  pub allowed : WellFormedAllows s j e.processor e.kind

-- each event may follow what stands before it
abbrev pub WellFormed : Sizes → List Event → Type 0
WellFormed s j = (k : ℕ) (e : Event) → EventAt j k e → WellFormedNext s (take k j) e

-- p waits, and what it waits for has come
abbrev pub Ready : Sizes → List Event → ℕ → Type 0
Ready s j p = (k : Kind) × IsTrue (event_takes k) × WellFormedAllows s j p k
