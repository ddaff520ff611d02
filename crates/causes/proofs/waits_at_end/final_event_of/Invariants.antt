use Rattle.std.proofs.Common.{ℕ, ◌≤◌, ◌≢◌}
use Rattle.journal.specs.declared.event.Event.{Event}
use Rattle.journal.specs.Events.{EventAt}
use Rattle.causes.proofs.waits_at_end.final_event_of.Given as goal

abbrev pub invariant-loop-place : goal.invariant-loop-place
invariant-loop-place l = (m : ℕ) (e : Event) → l.place ≤ m → EventAt l.events m e → e.processor ≢ l.by
