use Rattle.std.proofs.Common.{ℕ, ◌<◌}
use Rattle.explore.specs.TextGuards.{IsGuardedByText}
use Rattle.explore.proofs.text.unguarded_words.are_all_kept_apart.Given as goal

abbrev pub invariant-loop-word : goal.invariant-loop-word
invariant-loop-word l = (w : ℕ) → w < l.word → IsGuardedByText l.steps w
