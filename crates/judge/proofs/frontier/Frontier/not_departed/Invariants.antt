use Rattle.std.proofs.Common.{ℕ, ◌<◌, slice_index}
use Rattle.judge.proofs.frontier.Frontier.not_departed.Given as goal

abbrev pub invariant-loop-other : goal.invariant-loop-other
invariant-loop-other l = (r : ℕ) → r < l.other → l.departures < slice_index l.self.arrivals.items r
