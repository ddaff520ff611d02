use Rattle.std.proofs.Common.{◌≡◌, ℕ, Some, slice_get, vec_len}
use Rattle.journal.specs.declared.event.Event.{Event}
use Rattle.journal.specs.Events.{EventAt}
use Rattle.lrc_picture.specs.Cutout.{IsCutoutEventOnLane}
use Rattle.lrc_picture.proofs.cutout.cutout_events_of.Given as goal

abbrev pub invariant-loop-row : goal.invariant-loop-row
invariant-loop-row l = record {
  long : vec_len l.drawn ≡ l.row;
  each : (r k : ℕ) (e : Event) → slice_get l.places r ≡ Some k → EventAt l.drawn.items r e → IsCutoutEventOnLane l.lanes l.events k e;
}
