use Rattle.journal.proofs.Passes.SpentTraffic.{Spent}
use Rattle.journal.proofs.traffic.traffic_of.Given as goal

abbrev pub invariant-loop-event : goal.invariant-loop-event
invariant-loop-event l = Spent l.traffic l.events l.event-index
