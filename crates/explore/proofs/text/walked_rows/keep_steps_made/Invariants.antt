use Rattle.std.proofs.Common.{◌≡◌, ℕ, ◌<◌, ◌≤◌, min, slice_index}
use Rattle.explore.proofs.text.walked_rows.keep_steps_made.Given as goal

abbrev pub invariant-loop-processor : goal.invariant-loop-processor
invariant-loop-processor l = record {
  kept : (p : ℕ) → p < l.processor → slice_index l.made p ≡ min (slice_index l.fn.made p) (slice_index l.there p);
  rest : (p : ℕ) → l.processor ≤ p → slice_index l.made p ≡ slice_index l.fn.made p;
}
