use Rattle.std.proofs.Common.{◌≡◌, ◌≢◌, ℕ, ◌<◌, Some, slice_get}
use Rattle.lrc_picture.proofs.cutout.cutout_lane_of.Given as goal

abbrev pub invariant-loop-lane : goal.invariant-loop-lane
invariant-loop-lane l = (k q : ℕ) → k < l.lane → slice_get l.lanes k ≡ Some q → q ≢ l.processor
