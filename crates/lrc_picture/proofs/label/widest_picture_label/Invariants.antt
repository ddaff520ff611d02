use Rattle.std.proofs.Common.{ℕ, ◌<◌, ◌≤◌, length}
use Rattle.journal.specs.declared.event.Event.{Event}
use Rattle.journal.specs.Events.{EventAt}
use Rattle.lrc_picture.specs.Label.{picture_label_text}
use Rattle.lrc_picture.proofs.label.widest_picture_label.Given as goal

abbrev pub invariant-loop-event : goal.invariant-loop-event
invariant-loop-event l = record {
  fits : (k : ℕ) → k < l.event-index → (e : Event) → EventAt l.events k e → length (picture_label_text e.kind) ≤ l.most;
  short : l.most ≤ 96;
}
