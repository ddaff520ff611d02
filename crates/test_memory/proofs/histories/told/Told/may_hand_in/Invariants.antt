use Rattle.std.proofs.Common.{ℕ, ◌<◌}
use Rattle.journal.specs.declared.event.Event.{Event}
use Rattle.journal.specs.Events.{EventAt}
use Rattle.book.specs.AllowedCalls.{IsAllowedInnerCall}
use Rattle.test_memory.proofs.histories.told.Told.may_hand_in.Given as goal

abbrev pub invariant-loop-event : goal.invariant-loop-event
invariant-loop-event l = (k : ℕ) (e : Event) → k < l.event-index → EventAt l.block k e → IsAllowedInnerCall l.self.sizes l.p e
