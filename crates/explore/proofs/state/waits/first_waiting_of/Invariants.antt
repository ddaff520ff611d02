use Rattle.std.proofs.Common.{◌≡◌, ℕ, ◌<◌, Some, slice_get}
use Rattle.explore.specs.KeptWaiting.{IsKeptWaitingForLock}
use Rattle.explore.proofs.state.waits.first_waiting_of.Given as goal

abbrev pub invariant-loop-processor : goal.invariant-loop-processor
invariant-loop-processor l =
    (k r : ℕ) → k < l.processor-index → slice_get l.asked k ≡ Some r → ¬ IsKeptWaitingForLock l.waits r l.lock
