use Rattle.std.proofs.Common.{◌≡◌, length}
use Rattle.explore.proofs.text.lock_ranks.note_outer_locks.Given as goal

abbrev pub invariant-loop-step : goal.invariant-loop-step
invariant-loop-step l = length l.held ≡ 32
