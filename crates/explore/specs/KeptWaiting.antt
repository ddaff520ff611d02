-- What is kept of who waits for what, by the events so far.
use Rattle.std.specs.Prelude.{ℕ, suc, ◌≡◌, ◌↔◌, ◌+◌, ◌<◌, ◌==◌, not, Bool, false, true, IsTrue, Option, Some, None, List, [], ◌∷◌, ◌++◌, filter, length, replicate, slice_get, slice_index, slice_index_or, slice_set}
use Rattle.std.specs.Global.{Vec}
use Rattle.base.specs.InOrderOnce.{Has, InOrder}
use Rattle.journal.specs.declared.event.Event.{Event}
use Rattle.journal.specs.declared.event.Kind.{Kind}
use Rattle.journal.specs.declared.event.Kind.TheVariants.{Ask, Acquire}
use Rattle.explore.specs.declared.state.wait_code.LockHolder.{LockHolder}
use Rattle.explore.specs.declared.state.wait_code.WaitCode.{WaitCode}
use Rattle.explore.specs.declared.state.wait_code.WaitCode.TheVariants.{Lock}
use Rattle.base.specs.Limits.{most_held}
use Rattle.journal.specs.DidEvent.{event}
use Rattle.journal.specs.Sizes.{Sizes}
use Rattle.journal.specs.Events.{event_count, event_arrives, event_departs}
use Rattle.journal.specs.WellFormed.{Holds, WellFormedKindInRange, LastIs, WellFormedNext}
use Rattle.judge.specs.JudgedSizes.{AreJudgedSizesSmall}
use Rattle.judge.specs.FrontTells.{FrontTellsFlagSet}
use Rattle.judge.specs.Why.{WhyWaitsFor}
use Rattle.explore.specs.declared.state.waits.Waiting.{Waiting}
use Rattle.explore.specs.WaitCodes.{WaitCodesAreKept, wait_code_arrivals_open, wait_code_holder, wait_code_nobody}

-- of each processor what it waits for, if it waits
abbrev pub AreKeptWaitingKinds : List Event → List (Option Kind) → Type 0
AreKeptWaitingKinds g waits = (p : ℕ) (k : Kind) → (slice_index_or waits p None ≡ Some k) ↔ WhyWaitsFor g p k

-- p's last event asks for a lock, at place i
abbrev pub KeptWaitingAsksAt : List Event → ℕ → ℕ → Type 0
KeptWaitingAsksAt j p i = (l : ℕ) × LastIs j p i (Ask l)

-- these are the processors that wait for a lock, in the order of their asks
pub record AreKeptWaitingAsks (j : List Event) (asked : List ℕ) : Type 0 where
  pub each : (p : ℕ) → Has asked p ↔ ((i : ℕ) × KeptWaitingAsksAt j p i)
  pub order : InOrder (λ p q. (i k : ℕ) → KeptWaitingAsksAt j p i → KeptWaitingAsksAt j q k → i < k) asked
  pub small : (p : ℕ) → Has asked p → p < 16

-- what is kept tells these events
pub record TellsKeptWaiting (j : List Event) (x : Waiting) : Type 0 where
  pub long : length x.waits ≡ 16
  pub arrivals_long : length x.arrivals ≡ 16
  pub holders_long : length x.holders ≡ 32
  pub flags_long : length x.flags ≡ 32
  pub waits : WaitCodesAreKept j x.waits
  pub arrivals : (p : ℕ) → slice_index x.arrivals p ≡ event_count event_arrives j p
  pub departures : (p : ℕ) → event_count event_departs j p + wait_code_arrivals_open (slice_index_or x.waits p None) ≡ event_count event_arrives j p
  pub holders : (l q : ℕ) → (wait_code_holder (slice_index_or x.holders l wait_code_nobody) ≡ Some q) ↔ Holds j q l
  pub flags : (f : ℕ) → IsTrue (slice_index_or x.flags f false) ↔ FrontTellsFlagSet j f
  pub asked : AreKeptWaitingAsks j x.asked.items

-- both tell the same
pub record IsLikeKeptWaiting (x y : Waiting) : Type 0 where
  pub waits : y.waits ≡ x.waits
  pub arrivals : y.arrivals ≡ x.arrivals
  pub holders : y.holders ≡ x.holders
  pub flags : y.flags ≡ x.flags
  pub asked : y.asked.items ≡ x.asked.items

-- these ask for a lock, and nothing else is told
abbrev pub kept_waiting_asked : Vec ℕ → Waiting
kept_waiting_asked asked = record {
  waits = replicate 16 None;
  arrivals = replicate 16 0;
  holders = replicate 32 wait_code_nobody;
  flags = replicate 32 false;
  asked = asked;
}

-- p holds these locks too
abbrev pub kept_waiting_holders : ℕ → List LockHolder → List ℕ → List LockHolder
kept_waiting_holders p holders [] = holders
kept_waiting_holders p holders (l ∷ locks) = kept_waiting_holders p (slice_set holders l (record { 0 = suc p })) locks

-- these flags are set too
abbrev pub kept_waiting_flags : List Bool → List ℕ → List Bool
kept_waiting_flags set [] = set
kept_waiting_flags set (f ∷ flags) = kept_waiting_flags (slice_set set f true) flags

-- p waits for this, has arrived so often, holds these locks, and has set these flags
abbrev pub kept_waiting_told : Waiting → ℕ → Option WaitCode → ℕ → List ℕ → List ℕ → Waiting
kept_waiting_told x p wait arrivals locks flags = record {
  waits = slice_set x.waits p wait;
  arrivals = slice_set x.arrivals p arrivals;
  holders = kept_waiting_holders p x.holders locks;
  flags = kept_waiting_flags x.flags flags;
  asked = x.asked;
}

-- in a cluster of so many processors, p's event of this kind is in range, and this tells some events
pub record IsKeptWaitingPossible (x : Waiting) (processors p : ℕ) (k : Kind) : Type 0 where
  pub sizes : Sizes
  pub small : AreJudgedSizesSmall sizes
  pub processors_are : sizes.processors ≡ processors
  pub processor : p < processors
  pub in_range : WellFormedKindInRange sizes k
  pub events : List Event
  pub tells : TellsKeptWaiting events x

-- p's event of this kind may come after events that this tells, which are few
pub record MayFollowKeptWaiting (x : Waiting) (p : ℕ) (k : Kind) : Type 0 where
  pub sizes : Sizes
  pub small : AreJudgedSizesSmall sizes
  pub events : List Event
  pub tells : TellsKeptWaiting events x
  pub may_follow : WellFormedNext sizes events (event p k)
  pub few : length events < most_held

-- these without p
abbrev pub kept_waiting_without : List ℕ → ℕ → List ℕ
kept_waiting_without asked p = filter (λ q. not (q == p)) asked

-- who waits for a lock, after p's event of this kind
abbrev pub KeptWaitingAskedAfter : List ℕ → List ℕ → ℕ → Kind → Type 0
KeptWaitingAskedAfter old new p (Ask l) = new ≡ old ++ p ∷ []
KeptWaitingAskedAfter old new p (Acquire l) = new ≡ kept_waiting_without old p
KeptWaitingAskedAfter old new p _ = new ≡ old

-- q waits for l
abbrev pub IsKeptWaitingForLock : List (Option WaitCode) → ℕ → ℕ → Type 0
IsKeptWaitingForLock waits q l = slice_index_or waits q None ≡ Some (Lock l)

-- q is the first of these that waits for l
pub record IsFirstKeptWaiting (asked : List ℕ) (waits : List (Option WaitCode)) (l q : ℕ) : Type 0 where
  pub place : ℕ
  pub at : slice_get asked place ≡ Some q
  pub awaits : IsKeptWaitingForLock waits q l
  pub first : (k r : ℕ) → k < place → slice_get asked k ≡ Some r → ¬ IsKeptWaitingForLock waits r l
