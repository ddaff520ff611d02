use Rattle.journal.proofs.FromBase.KeptStep.{IsKeptAfterSteps}
use Rattle.journal.proofs.base_state.KeptBaseState.after.Given as goal

abbrev pub invariant-loop-event : goal.invariant-loop-event
invariant-loop-event l = IsKeptAfterSteps l.self l.events l.event-index l.kept
