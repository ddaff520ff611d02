-- Ways along edges from one place to another.
use Rattle.std.specs.Prelude.{ℕ, ◌≡◌, ◌+◌, ◌-◌, ◌<◌, List, Option, Some, MatchOption, length, slice_get}
use Rattle.journal.specs.declared.event.Event.{Event}
use Rattle.journal.specs.declared.event.Kind.{Kind}
use Rattle.journal.specs.EventsInRange.{EventProcessorsInRange}
use Rattle.journal.specs.HappensBeforeEdges.{Edge}
use Rattle.journal.specs.Pasts.{UpTo}
use Rattle.journal.specs.WellFormed.{Does}
use Rattle.judge.specs.JudgedSizes.{most_judged_processors}
use Rattle.causes.specs.declared.ways.Ways.{Ways}
use Rattle.causes.specs.declared.reaching.Reach.{Reach}
use Rattle.causes.specs.HandOvers.{AreAllHandOvers}
use Rattle.causes.specs.TakingEvents.{AreAllTakingEvents}

-- these places lead from place i to place k: each has an edge to the next
pub record IsPathWay (j : List Event) (i k : ℕ) (places : List ℕ) : Type 0 where
  pub first : slice_get places 0 ≡ Some i
  pub last : slice_get places (length places - 1) ≡ Some k
  pub steps : (n a b : ℕ) → slice_get places n ≡ Some a → slice_get places (n + 1) ≡ Some b → Edge j a b

-- place i is q's event at place m, or happens before it, and is and does so of no earlier one of q
pub record IsPathEntry (j : List Event) (i q m : ℕ) : Type 0 where
  pub kind : Kind
  pub does : Does j m q kind
  pub reached : UpTo j m i
  pub first : (k : ℕ) (a : Kind) → k < m → Does j k q a → ¬ UpTo j k i

-- that event of q, where it has one
abbrev pub PathEntryIfAny : List Event → ℕ → ℕ → Option ℕ → Type 0
PathEntryIfAny j i q o = MatchOption o ((k : ℕ) (a : Kind) → Does j k q a → ¬ UpTo j k i) (IsPathEntry j i q)

-- what is looked up is the history's
pub record IsPathLookup (j : List Event) (x : Reach) : Type 0 where
  pub processors : EventProcessorsInRange most_judged_processors j
  pub takings : AreAllTakingEvents j (length j) x.takings.items

pub record ArePathWays (j : List Event) (x : Ways) : Type 0 where
  pub reach : IsPathLookup j x.reach
  pub hand_overs : AreAllHandOvers j x.hand_overs.items
