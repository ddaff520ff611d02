-- Those before p wait for what has not come.
use Rattle.std.proofs.Common.{◌≡◌, ℕ, ◌<◌, Some, false, slice_get}
use Rattle.book.specs.Messages.{message_has_come}
use Rattle.journal.specs.ClosingKinds.{closing_awaits_kind}
use Rattle.journal.specs.declared.closing_and_awaited.Awaited.{Awaited}
use Rattle.book.proofs.done_waiting.all_wait_in_vain.Given as goal

abbrev pub invariant-loop-p : goal.invariant-loop-p
invariant-loop-p l =
    (k : ℕ) → k < l.p
    → (a : Awaited) × (slice_get l.awaits k ≡ Some (Some a)) × (message_has_come l.flags l.mail k (closing_awaits_kind a) ≡ false)
