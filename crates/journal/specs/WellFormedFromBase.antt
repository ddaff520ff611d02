-- Which journals a cluster can make from a base: some locks are held and some flags set; if something was cut off,
-- every processor has arrived and none departed.
use Rattle.std.specs.Prelude.{ℕ, ◌≡◌, ◌≢◌, ◌+◌, ◌<◌, ◌≤◌, ◌⊎◌, List, take}
use Rattle.journal.specs.declared.event.Event.{Event}
use Rattle.journal.specs.declared.event.Kind.{Kind}
use Rattle.journal.specs.declared.event.Kind.TheVariants.{Ask, Acquire, Release, Arrive, Depart, Set, Watch, Await}
use Rattle.base.specs.InOrderOnce.{Has}
use Rattle.journal.specs.Sizes.{Sizes}
use Rattle.journal.specs.Events.{EventAt, event_count, event_arrives, event_departs}
use Rattle.journal.specs.WellFormed.{WellFormedKindInRange, Does, LastIs, Holds, WellFormedAnswer}
use Rattle.journal.specs.Base.{Base, base_arrivals_cut}

-- p has done nothing here
abbrev pub IsAwayFromBase : List Event → ℕ → Type 0
IsAwayFromBase j p = (m : ℕ) (e : Event) → EventAt j m e → e.processor ≢ p

-- p held l at the base, and has not released it since
pub record StillHoldsFromBase (b : Base) (j : List Event) (p l : ℕ) : Type 0 where
  pub held : Has b.holders (p, l)
  pub keeps : (k : ℕ) → ¬ Does j k p (Release l)

-- p holds l, by an acquire of its own here or from the base
abbrev pub HoldsFromBase : Base → List Event → ℕ → ℕ → Type 0
HoldsFromBase b j p l = Holds j p l ⊎ StillHoldsFromBase b j p l

-- f is set, here or at the base
abbrev pub IsSetFromBase : Base → List Event → ℕ → Type 0
IsSetFromBase b j f = Has b.flags f ⊎ ((k q : ℕ) × Does j k q (Set f))

-- p's last event is this: one of these, or if it has done nothing here, its arrival that was cut off
abbrev pub LastFromBase : Base → List Event → ℕ → Kind → Type 0
LastFromBase b j p k = ((i : ℕ) × LastIs j p i k) ⊎ ((k ≡ Arrive) × (b.cut ≢ 0) × IsAwayFromBase j p)

-- nobody holds l, and no ask of it before place i is open
pub record WellFormedGrantFromBase (b : Base) (j : List Event) (i l : ℕ) : Type 0 where
  pub free : (q : ℕ) → ¬ HoldsFromBase b j q l
  pub first : (k q : ℕ) → k < i → ¬ LastIs j q k (Ask l)

-- every processor has arrived at least that many times, with the arrival that was cut off
abbrev pub WellFormedAllArrivedFromBase : Sizes → Base → List Event → ℕ → Type 0
WellFormedAllArrivedFromBase s b j n = (q : ℕ) → q < s.processors → n ≤ event_count event_arrives j q + base_arrivals_cut b

-- what has to hold for p to do this next
abbrev pub WellFormedAllowsFromBase : Sizes → Base → List Event → ℕ → Kind → Type 0
WellFormedAllowsFromBase s b j p (Ask l) = ¬ HoldsFromBase b j p l
WellFormedAllowsFromBase s b j p (Acquire l) = (i : ℕ) × LastIs j p i (Ask l) × WellFormedGrantFromBase b j i l
WellFormedAllowsFromBase s b j p (Release l) = HoldsFromBase b j p l
WellFormedAllowsFromBase s b j p Depart = LastFromBase b j p Arrive × WellFormedAllArrivedFromBase s b j (event_count event_departs j p + 1)
WellFormedAllowsFromBase s b j p (Await f) = ((i : ℕ) × LastIs j p i (Watch f)) × IsSetFromBase b j f
WellFormedAllowsFromBase s b j p _ = Unit {0}

-- the event may come next after j
pub record WellFormedNextFromBase (s : Sizes) (b : Base) (j : List Event) (e : Event) : Type 0 where
  pub processor : e.processor < s.processors
  pub in_range : WellFormedKindInRange s e.kind
  pub answers : (k : Kind) → LastFromBase b j e.processor k → WellFormedAnswer k e.kind
  pub allowed : WellFormedAllowsFromBase s b j e.processor e.kind

-- each event may follow what stands before it
abbrev pub WellFormedFromBase : Sizes → Base → List Event → Type 0
WellFormedFromBase s b j = (k : ℕ) (e : Event) → EventAt j k e → WellFormedNextFromBase s b (take k j) e
