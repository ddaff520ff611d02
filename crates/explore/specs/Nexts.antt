-- What may come next after a state, and which two of these events conflict.
use Rattle.std.specs.Prelude.{ℕ, ◌≡◌, ◌≢◌, ◌<◌, ◌↔◌, Option, Some, None, List, length, slice_get, slice_index_or}
use Rattle.journal.specs.declared.event.Event.{Event}
use Rattle.journal.specs.declared.event.Kind.{Kind}
use Rattle.journal.specs.DidEvent.{did, event}
use Rattle.journal.specs.Races.{Conflict}
use Rattle.lrc_script.specs.Plan.{Plan}
use Rattle.explore.specs.Prefixes.FlatBeginnings.{IsFlatBeginning}
use Rattle.explore.specs.declared.state.flat_state.FlatState.{FlatState}
use Rattle.explore.specs.declared.search.neighbours.Neighbours.{Neighbours}
use Rattle.explore.specs.FoundStates.{FoundStateMayDo}
use Rattle.explore.specs.Machines.{MachineKnows}

-- of each processor what it may do next, whatever events come to m
abbrev pub AreNexts : Plan → FlatState → List (Option Kind) → Type 0
AreNexts s m nexts = (g : List Event) → MachineKnows s g m → (p : ℕ) (k : Kind)
    → (slice_index_or nexts p None ≡ Some k) ↔ IsFlatBeginning s (did g p k)

-- nothing may come next, whatever events come to m
abbrev pub NextsAreOver : Plan → FlatState → Type 0
NextsAreOver s m = (g : List Event) (p : ℕ) (k : Kind) → MachineKnows s g m → ¬ IsFlatBeginning s (did g p k)

-- what p and q may do next conflicts
pub record AreNextInConflict (nexts : List (Option Kind)) (p q : ℕ) (a b : Kind) : Type 0 where
  pub apart : p ≢ q
  pub first : slice_index_or nexts p None ≡ Some a
  pub second : slice_index_or nexts q None ≡ Some b
  pub conflict : Conflict (event p a) (event q b)

-- two events that conflict may come next after the state at this place
pub record AreNextNeighbours (s : Plan) (states : List FlatState) (x : Neighbours) : Type 0 where
  pub within : x.place < length states
  pub apart : x.first.processor ≢ x.second.processor
  pub conflict : Conflict x.first x.second
  pub first : (m : FlatState) → slice_get states x.place ≡ Some m → FoundStateMayDo s m x.first.processor x.first.kind
  pub second : (m : FlatState) → slice_get states x.place ≡ Some m → FoundStateMayDo s m x.second.processor x.second.kind
