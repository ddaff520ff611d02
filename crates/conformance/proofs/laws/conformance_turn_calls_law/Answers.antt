use Rattle.conformance.proofs.TurnCalls.{turn_calls_law}
use Rattle.conformance.proofs.laws.conformance_turn_calls_law.Goals as goal

pub returns : goal.returns
returns c = turn_calls_law
