use Rattle.std.proofs.Common.{ℕ, ◌<◌, ◌≤◌, slice_index}
use Rattle.explore.proofs.state.waits.Waiting.may_depart.Given as goal

abbrev pub invariant-loop-other : goal.invariant-loop-other
invariant-loop-other l = (r : ℕ) → r < l.other → l.arrivals ≤ slice_index l.self.arrivals r
