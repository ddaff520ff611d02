-- What a search looks for.
use Rattle.std.specs.Prelude.{ℕ, ◌<◌, List, Some, ◌≡◌, length, slice_get}
use Rattle.journal.specs.declared.event.Event.{Event}
use Rattle.lrc_script.specs.Plan.{Plan}
use Rattle.explore.specs.declared.state.flat_state.FlatState.{FlatState}
use Rattle.explore.specs.declared.goal.Goal.{Goal}
use Rattle.explore.specs.declared.goal.Goal.TheVariants.{All, Until}
use Rattle.explore.specs.EndingWords.{IsRunEndingWithWords}
use Rattle.explore.specs.Machines.{MachineKnows}

-- on one flat memory: no run, or one that ends with these words
abbrev pub IsRunOfGoal : Plan → Goal → List Event → Type 0
IsRunOfGoal s All = λ g. ⊥
IsRunOfGoal s (Until words) = IsRunEndingWithWords s words.now

-- the state at this place is one for which P holds
pub record IsGoalMetAt (s : Plan) (P : List Event → Type 0) (states : List FlatState) (place : ℕ) : Type 0 where
  pub within : place < length states
  pub ends : (m : FlatState) (g : List Event) → slice_get states place ≡ Some m → MachineKnows s g m → P g

-- none of the first n states is
abbrev pub IsGoalUnmet : Plan → (List Event → Type 0) → List FlatState → ℕ → Type 0
IsGoalUnmet s P states n = (place : ℕ) (m : FlatState) (g : List Event) → place < n → slice_get states place ≡ Some m
    → MachineKnows s g m → ¬ P g
