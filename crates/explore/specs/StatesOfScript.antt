-- How many states a script has.
use Rattle.std.specs.Prelude.{ℕ, ◌≡◌, ◌<◌, List}
use Rattle.journal.specs.declared.event.Event.{Event}
use Rattle.lrc_script.specs.Plan.{Plan}
use Rattle.explore.specs.Prefixes.FlatBeginnings.{IsFlatBeginning}
use Rattle.explore.specs.declared.state.flat_state.FlatState.{FlatState}
use Rattle.explore.specs.declared.outcomes.telling.Detail.{Detail}
use Rattle.explore.specs.Machines.{MachineKnows}
use Rattle.explore.specs.OutcomeTelling.{outcome_telling_of_script}

-- one machine that keeps what is told by this detail can have done either: what each processor has done, the kept replies,
-- the words, and who waits for what are the same
pub record IsOneStateOfScript (s : Plan) (d : Detail) (g h : List Event) : Type 0 where
  pub machine : FlatState
  pub telling : machine.telling ≡ outcome_telling_of_script s d
  pub first : MachineKnows s g machine
  pub second : MachineKnows s h machine

-- the script has as many states at least: prefixes of which no two come to one state
pub record HasStatesOfScript (s : Plan) (d : Detail) (n : ℕ) : Type 0 where
  pub beginning : ℕ → List Event
  pub are : (i : ℕ) → i < n → IsFlatBeginning s (beginning i)
  pub apart : (i k : ℕ) → i < k → k < n → ¬ IsOneStateOfScript s d (beginning i) (beginning k)
