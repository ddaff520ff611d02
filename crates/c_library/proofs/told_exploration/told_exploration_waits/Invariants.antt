use Rattle.std.proofs.Common.{◌≡◌, ◌<◌, ℕ, length, get_or}
use Rattle.c_library.specs.ToldExploration.{told_exploration_no_wait, told_exploration_wait_of}
use Rattle.c_library.proofs.told_exploration.told_exploration_waits.Given as goal

abbrev pub invariant-loop-processor : goal.invariant-loop-processor
invariant-loop-processor l = record {
  long : length l.told ≡ 16;
  same : (p : ℕ) → p < l.processor → get_or l.told p told_exploration_no_wait ≡ told_exploration_wait_of l.waits p;
}
