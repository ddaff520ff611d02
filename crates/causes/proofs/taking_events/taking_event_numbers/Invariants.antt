use Rattle.std.proofs.Common.{◌≡◌, vec_len}
use Rattle.journal.specs.Events.{event_closes}
use Rattle.causes.proofs.EdgeLeadsOn.{AreLeadingEdgeCountsBefore}
use Rattle.causes.proofs.TakingRows.{AreTakingRowNumbersBelow}
use Rattle.causes.proofs.taking_events.taking_event_numbers.Given as goal

abbrev pub invariant-loop-place : goal.invariant-loop-place
invariant-loop-place l = record {
  closed : AreLeadingEdgeCountsBefore event_closes l.events l.place l.closed;
  long : vec_len l.numbers ≡ l.place;
  numbers : AreTakingRowNumbersBelow l.events l.place l.numbers.items;
}
