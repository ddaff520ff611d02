use Rattle.std.proofs.Common.{arith}
use Rattle.std.proofs.lemmas.Grind.{elements}
use Rattle.causes.proofs.states_of_events.all_event_states.Goals as goal

pub event_state_at-requires-clause-within : goal.event_state_at-requires-clause-within
event_state_at-requires-clause-within c = grind (arith, elements)

pub loop-place-preserved : goal.loop-place-preserved
loop-place-preserved c = grind (arith, elements)
