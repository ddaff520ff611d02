use Rattle.std.proofs.Common.{◌≡◌, ℕ, map, take}
use Rattle.explore.proofs.memory.reported_outcome.words_told_of.Given as goal

abbrev pub invariant-loop-index : goal.invariant-loop-index
invariant-loop-index l = l.words.items ≡ map (λ (x : ℕ × ℕ). x.1) (take l.index l.shown)
