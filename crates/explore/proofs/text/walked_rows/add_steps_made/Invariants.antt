use Rattle.std.proofs.Common.{◌≡◌, ℕ, ◌<◌, ◌≤◌, max, slice_index}
use Rattle.explore.proofs.text.walked_rows.add_steps_made.Given as goal

abbrev pub invariant-loop-processor : goal.invariant-loop-processor
invariant-loop-processor l = record {
  joined : (p : ℕ) → p < l.processor → slice_index l.made p ≡ max (slice_index l.fn.made p) (slice_index l.more p);
  rest : (p : ℕ) → l.processor ≤ p → slice_index l.made p ≡ slice_index l.fn.made p;
}
