use Rattle.std.proofs.Common.{ℕ, ◌≡◌, ◌≢◌, ◌<◌, Some, slice_get}
use Rattle.lrc_sample.specs.declared.tally.TallyLine.{TallyLine}
use Rattle.lrc_sample.proofs.tally.find_in_sample_tally.Given as goal

abbrev pub invariant-loop-place : goal.invariant-loop-place
invariant-loop-place l = (k : ℕ) (line : TallyLine) → k < l.place → slice_get l.lines k ≡ Some line
    → line.outcome ≢ l.outcome
