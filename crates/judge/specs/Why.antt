-- What each reason says of an event and of what stands before it.
use Rattle.std.specs.Prelude.{ℕ, ◌≡◌, ◌≢◌, ◌<◌, ◌≤◌, ◌⊎◌, Bool, true, false, IsTrue, Option, Some, MatchOption, List, is_some, take}
use Rattle.journal.specs.declared.event.Event.{Event}
use Rattle.journal.specs.declared.event.Kind.{Kind}
use Rattle.journal.specs.declared.event.Kind.TheVariants.{Ask, Acquire, Release, Depart, Set, Await}
use Rattle.journal.specs.Sizes.{Sizes}
use Rattle.journal.specs.Events.{EventAt, event_count, event_arrives, event_departs, event_takes}
use Rattle.journal.specs.WellFormed.{Does, Holds, WellFormedKindInRange, LastIs}
use Rattle.journal.specs.AwaitedNext.{awaited_next}
use Rattle.judge.specs.declared.why.Why.{Why}
use Rattle.judge.specs.declared.why.Why.TheVariants.{NoSuchProcessor, OutOfRange, Waits, AsksWhatItHolds, NotAsked}
use Rattle.judge.specs.declared.why.Why.TheVariants.{HeldBy, AskedEarlier, NotHeld, NotArrived, NotSet}
use Rattle.judge.specs.declared.ill_formed.IllFormed.{IllFormed}
use Rattle.judge.specs.LaxWellFormed.{MayFollowOrLax, WellFormedOrLax, lax_ask_of}

-- p's last event is one after which it waits, for this
pub record WhyWaitsFor (j : List Event) (p : ℕ) (k : Kind) : Type 0 where
  pub place : ℕ
  pub kind : Kind
  pub last : LastIs j p place kind
  pub awaits : awaited_next kind ≡ Some k

-- p waits for this, or, lax, it stands for its ask or watch, too
abbrev pub WhyMayTake : Bool → List Event → ℕ → Kind → Type 0
WhyMayTake lax j p k = WhyWaitsFor j p k ⊎ ((lax ≡ true) × IsTrue (is_some (lax_ask_of k)))

-- p's ask of l is open, and q's at the earlier place i is too
pub record WhyAskedBehind (j : List Event) (p l q i : ℕ) : Type 0 where
  pub place : ℕ
  pub asked : LastIs j p place (Ask l)
  pub earlier : LastIs j q i (Ask l)
  pub before : i < place

-- the reason is true of the event e after j; lax, the order of asks is none, and neither is an ask or a watch that isn't there
abbrev pub IsWhy : Bool → Sizes → List Event → Event → Why → Type 0
IsWhy lax s j e NoSuchProcessor = s.processors ≤ e.processor
IsWhy lax s j e OutOfRange = ¬ WellFormedKindInRange s e.kind
IsWhy lax s j e (Waits k) = WhyWaitsFor j e.processor k × (e.kind ≢ k)
IsWhy lax s j e AsksWhatItHolds = (l : ℕ) × (e.kind ≡ Ask l) × Holds j e.processor l
IsWhy lax s j e NotAsked = IsTrue (event_takes e.kind) × (¬ WhyMayTake lax j e.processor e.kind)
IsWhy lax s j e (HeldBy q) = (l : ℕ) × (e.kind ≡ Acquire l) × Holds j q l
IsWhy lax s j e (AskedEarlier q i) = (l : ℕ) × (e.kind ≡ Acquire l) × WhyAskedBehind j e.processor l q i × (lax ≡ false)
IsWhy lax s j e NotHeld = (l : ℕ) × (e.kind ≡ Release l) × (¬ Holds j e.processor l)
IsWhy lax s j e (NotArrived q) =
    (e.kind ≡ Depart) × (q < s.processors) × (event_count event_arrives j q ≤ event_count event_departs j e.processor)
IsWhy lax s j e NotSet = (f : ℕ) × (e.kind ≡ Await f) × ((k q : ℕ) → ¬ Does j k q (Set f))

-- the order of the reasons
abbrev pub why_rank : Why → ℕ
why_rank NoSuchProcessor = 0
why_rank OutOfRange = 1
why_rank (Waits k) = 2
why_rank AsksWhatItHolds = 3
why_rank NotAsked = 4
why_rank (HeldBy q) = 5
why_rank (AskedEarlier q i) = 6
why_rank NotHeld = 7
why_rank (NotArrived q) = 8
why_rank NotSet = 9

-- among open asks the first place comes first, among those who have not arrived the least processor
abbrev pub number : Why → ℕ
number (AskedEarlier q i) = i
number (NotArrived q) = q
number _ = 0

-- the reason v doesn't come before w
abbrev pub IsWhyUpTo : Why → Why → Type 0
IsWhyUpTo w v = (why_rank w ≤ why_rank v) × (why_rank w ≡ why_rank v → number w ≤ number v)

-- of the reasons that are true, w is the first
pub record IsFirstTrueWhy (lax : Bool) (s : Sizes) (j : List Event) (e : Event) (w : Why) : Type 0 where
  pub is_true : IsWhy lax s j e w
  pub first : (v : Why) → IsWhy lax s j e v → IsWhyUpTo w v

-- None where the event may come next, else the first reason why not
abbrev pub IsWhyVerdict : Bool → Sizes → List Event → Event → Option Why → Type 0
IsWhyVerdict lax s j e o = MatchOption o (MayFollowOrLax lax s j e) (IsFirstTrueWhy lax s j e)

-- its processor and its numbers are within the sizes, and it is what its processor waits for, where that waits
pub record WhyIsInTurn (s : Sizes) (j : List Event) (e : Event) : Type 0 where
  pub processor : e.processor < s.processors
  pub in_range : WellFormedKindInRange s e.kind
  pub answers : (k : Kind) → WhyWaitsFor j e.processor k → e.kind ≡ k

-- the event at this place may not follow what stands before it, which is well formed, and this is the first reason
pub record IsFirstWhyIllFormed (lax : Bool) (s : Sizes) (j : List Event) (x : IllFormed) : Type 0 where
  pub event : Event
  pub at : EventAt j x.place event
  pub before : WellFormedOrLax lax s (take x.place j)
  pub refused : ¬ MayFollowOrLax lax s (take x.place j) event
  pub why : IsFirstTrueWhy lax s (take x.place j) event x.why

-- where a reason is true of an event, it may not come next
abbrev pub WhyLaw : Type 0
WhyLaw = (lax : Bool) (s : Sizes) (j : List Event) (e : Event) (w : Why)
    → IsWhy lax s j e w → ¬ MayFollowOrLax lax s j e
