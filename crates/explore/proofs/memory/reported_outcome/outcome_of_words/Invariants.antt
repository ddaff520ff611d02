use Rattle.std.proofs.Common.{◌≡◌, ◌==◌, ◌<◌, ℕ, cond, [], Some, length, map, slice_get}
use Rattle.explore.specs.Machines.{machine_rows}
use Rattle.explore.proofs.memory.reported_outcome.outcome_of_words.Given as goal

abbrev pub invariant-loop-processor : goal.invariant-loop-processor
invariant-loop-processor l = record {
  long : length (machine_rows l.replies.items) ≡ l.processor;
  each : (p : ℕ) → p < l.processor
      → slice_get (machine_rows l.replies.items) p ≡ Some (cond (p == 0) (map (λ (x : ℕ × ℕ). x.1) l.report.shown.items) []);
}
