-- Which journals a cluster can make that grants a lock's asks in any order, where an acquire or an await may stand for its ask
-- or watch, too.
use Rattle.std.specs.Prelude.{ℕ, ◌≡◌, ◌<◌, ◌↔◌, ◌∷◌, ◌++◌, Bool, true, false, List, Option, Some, None, take}
use Rattle.journal.specs.declared.event.Event.{Event}
use Rattle.journal.specs.declared.event.Kind.{Kind}
use Rattle.journal.specs.declared.event.Kind.TheVariants.{Ask, Acquire, Set, Watch, Await}
use Rattle.journal.specs.AwaitedNext.{AwaitsNothingNext}
use Rattle.journal.specs.DidEvent.{event}
use Rattle.journal.specs.Sizes.{Sizes}
use Rattle.journal.specs.Events.{EventAt}
use Rattle.journal.specs.WellFormed.{Does, WellFormedAllows, WellFormedAnswer, Holds, WellFormedKindInRange, LastIs, WellFormedNext, WellFormed}

-- what has to hold for p to do this next: of an acquire, that nobody holds the lock; of an await, that somebody has set the
-- flag; whether p has asked or watched for it isn't looked at
abbrev pub LaxAllowed : Sizes → List Event → ℕ → Kind → Type 0
LaxAllowed s j p (Acquire l) = (q : ℕ) → ¬ Holds j q l
LaxAllowed s j p (Await f) = (k q : ℕ) × Does j k q (Set f)
LaxAllowed s j p k = WellFormedAllows s j p k

-- the event may come next after j
pub record LaxMayFollow (s : Sizes) (j : List Event) (e : Event) : Type 0 where
  pub processor : e.processor < s.processors
  pub in_range : WellFormedKindInRange s e.kind
  pub answers : (i : ℕ) (k : Kind) → LastIs j e.processor i k → WellFormedAnswer k e.kind
  pub allowed : LaxAllowed s j e.processor e.kind

-- each event may follow what stands before it
abbrev pub LaxWellFormed : Sizes → List Event → Type 0
LaxWellFormed s j = (k : ℕ) (e : Event) → EventAt j k e → LaxMayFollow s (take k j) e

-- the same, lax or not
abbrev pub MayFollowOrLax : Bool → Sizes → List Event → Event → Type 0
MayFollowOrLax true = LaxMayFollow
MayFollowOrLax false = WellFormedNext

abbrev pub WellFormedOrLax : Bool → Sizes → List Event → Type 0
WellFormedOrLax true = LaxWellFormed
WellFormedOrLax false = WellFormed

-- the ask or the watch that an acquire or an await stands for, where its processor has not asked or watched for it
abbrev pub lax_ask_of : Kind → Option Kind
lax_ask_of (Acquire l) = Some (Ask l)
lax_ask_of (Await f) = Some (Watch f)
lax_ask_of _ = None

-- a well formed history is well formed in the lax sense
abbrev pub LaxLaw : Type 0
LaxLaw = (s : Sizes) (j : List Event) → WellFormed s j → LaxWellFormed s j

-- lax, an acquire or an await of a processor that waits for nothing is judged as with its ask or watch right before it: the one
-- history is well formed exactly if the other is
abbrev pub LaxAskLaw : Type 0
LaxAskLaw = (s : Sizes) (j : List Event) (p : ℕ) (k a : Kind) (es : List Event) → lax_ask_of k ≡ Some a → AwaitsNothingNext j p
    → LaxWellFormed s (j ++ event p k ∷ es) ↔ LaxWellFormed s (j ++ event p a ∷ event p k ∷ es)
