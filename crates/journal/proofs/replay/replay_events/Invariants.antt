use Rattle.journal.proofs.Passes.ReplayedSoFar.{ReplayedSoFar}
use Rattle.journal.proofs.replay.replay_events.Given as goal

abbrev pub invariant-loop-event : goal.invariant-loop-event
invariant-loop-event l = ReplayedSoFar l.fn.memory l.memory l.events l.event-index
