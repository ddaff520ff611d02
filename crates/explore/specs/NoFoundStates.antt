-- A search that has kept no state yet.
use Rattle.std.specs.Prelude.{◌≡◌, []}
use Rattle.explore.specs.declared.state.found_states.FoundStates.{FoundStates}
use Rattle.explore.specs.KeptStates.{AreNoStateParts}
use Rattle.explore.specs.Origins.{AreOriginsInOrder, state_origins}

-- no state is kept, no part of one, and no origin
pub record AreNoFoundStates (x : FoundStates) : Type 0 where
  pub parts : AreNoStateParts x.parts.calls x.parts
  pub states : x.states.keys ≡ []
  pub origins : state_origins x.origins ≡ []
  pub in_order : AreOriginsInOrder x.origins
