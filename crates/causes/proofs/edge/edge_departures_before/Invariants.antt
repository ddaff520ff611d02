use Rattle.std.proofs.Common.{◌≡◌, take}
use Rattle.journal.specs.Events.{event_count, event_departs}
use Rattle.causes.proofs.edge.edge_departures_before.Given as goal

abbrev pub invariant-loop-i : goal.invariant-loop-i
invariant-loop-i l = l.departed ≡ event_count event_departs (take l.i l.events) l.processor
