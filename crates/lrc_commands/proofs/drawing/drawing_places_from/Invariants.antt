use Rattle.std.proofs.Common.{ℕ, ◌-◌, ◌<◌}
use Rattle.std.specs.Prelude.{All}
use Rattle.lrc_commands.proofs.drawing.drawing_places_from.Given as goal

abbrev pub invariant-loop-place : goal.invariant-loop-place
invariant-loop-place l = (n : ℕ) → All (λ i. i < n) l.places → All (λ i. i < n - l.opening) l.left.items
