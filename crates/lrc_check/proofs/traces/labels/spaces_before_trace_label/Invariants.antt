use Rattle.std.proofs.Common.{ℕ, ◌+◌, ◌<◌, ◌≤◌}
use Rattle.lrc_check.proofs.traces.Labelling.{IsLabellingDoubleSpace}
use Rattle.lrc_check.proofs.traces.labels.spaces_before_trace_label.Given as goal

-- no two spaces in a row stand before
abbrev pub invariant-loop-at : goal.invariant-loop-at
invariant-loop-at l = (k : ℕ) → 1 ≤ k → k + 1 < l.at → ¬ IsLabellingDoubleSpace l.line k
