use Rattle.std.proofs.Common.{◌≡◌, take}
use Rattle.journal.specs.Events.{event_count, event_arrives}
use Rattle.causes.proofs.waits_at_end.final_wait_arrivals.Given as goal

abbrev pub invariant-loop-place : goal.invariant-loop-place
invariant-loop-place l = l.arrived ≡ event_count event_arrives (take l.place l.events) l.by
