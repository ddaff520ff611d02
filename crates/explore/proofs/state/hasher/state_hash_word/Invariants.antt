use Rattle.std.proofs.Common.{◌≡◌, ◌≤◌, drop, length}
use Rattle.explore.specs.StateHashes.{state_hash_word}
use Rattle.explore.proofs.state.hasher.state_hash_word.Given as goal

abbrev pub decreases-loop-rest : goal.decreases-loop-rest
decreases-loop-rest l = l.rest

abbrev pub invariant-loop-rest : goal.invariant-loop-rest
invariant-loop-rest l = record {
  within : l.rest ≤ length l.bytes;
  word : l.word ≡ state_hash_word (drop l.rest l.bytes);
}
