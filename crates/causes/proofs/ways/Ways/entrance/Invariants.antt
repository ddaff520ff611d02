use Rattle.std.proofs.Common.{◌≡◌, ◌<◌, ℕ, Some, slice_get}
use Rattle.journal.specs.Pasts.{UpTo}
use Rattle.causes.proofs.ways.Ways.entrance.Given as goal

abbrev pub invariant-loop-entrance : goal.invariant-loop-entrance
invariant-loop-entrance l =
    (m n : ℕ) → m < l.entrance-index → slice_get l.entrance-items m ≡ Some n → ¬ UpTo l.events n l.from
