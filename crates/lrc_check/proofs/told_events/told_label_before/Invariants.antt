use Rattle.std.proofs.Common.{◌≡◌, take}
use Rattle.std.specs.Prelude.{None}
use Rattle.lrc_check.specs.ToldLines.{told_known_event}
use Rattle.lrc_check.proofs.told_events.told_label_before.Given as goal

-- no event so far is of this place
abbrev pub invariant-loop-event : goal.invariant-loop-event
invariant-loop-event l = told_known_event (take l.event-index l.known) l.place ≡ None
