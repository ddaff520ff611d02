use Rattle.std.proofs.Common.{◌≡◌, map, take}
use Rattle.c_library.specs.Given.{given_event_of}
use Rattle.c_library.proofs.given.given_events_of.Given as goal

abbrev pub invariant-loop-event : goal.invariant-loop-event
invariant-loop-event l = l.events.items ≡ map given_event_of (take l.event-index l.given)
