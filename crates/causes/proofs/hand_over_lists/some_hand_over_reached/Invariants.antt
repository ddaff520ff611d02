use Rattle.std.proofs.Common.{◌≡◌, ◌<◌, ℕ, Some, slice_get}
use Rattle.journal.specs.Pasts.{UpTo}
use Rattle.causes.proofs.hand_over_lists.some_hand_over_reached.Given as goal

abbrev pub invariant-loop-place : goal.invariant-loop-place
invariant-loop-place l = (m n : ℕ) → m < l.place-index → slice_get l.places m ≡ Some n → ¬ UpTo l.events n l.from
