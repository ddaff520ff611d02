use Rattle.std.proofs.Common.{ℕ, ◌≡◌, ◌≤◌, ◌<◌, ◌-◌, Some, length, slice_get}
use Rattle.interval.specs.SentIntervals.{SentRecord}
use Rattle.cluster.proofs.copies.backlog.Backlog.on_from.Given as goal

abbrev pub invariant-loop-at : goal.invariant-loop-at
invariant-loop-at l = record {
  within : l.at ≤ length l.self.records;
  before : (i : ℕ) (x : SentRecord) → i < l.at → slice_get l.self.records i ≡ Some x → x.place ≤ l.place;
}

abbrev pub decreases-loop-at : goal.decreases-loop-at
decreases-loop-at l = length l.self.records - l.at
