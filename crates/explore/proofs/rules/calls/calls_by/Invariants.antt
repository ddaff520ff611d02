use Rattle.std.proofs.Common.{◌≡◌, take}
use Rattle.conformance.specs.Follows.{calls_of}
use Rattle.explore.proofs.rules.calls.calls_by.Given as goal

abbrev pub invariant-loop-event : goal.invariant-loop-event
invariant-loop-event l = l.calls.items ≡ calls_of (take l.event-index l.events) l.processor
