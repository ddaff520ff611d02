use Rattle.std.proofs.Common.{◌≡◌, take}
use Rattle.explore.specs.KeptStates.{words_over}
use Rattle.explore.proofs.state.kept_state.put_words_over.Given as goal

abbrev pub invariant-loop-place : goal.invariant-loop-place
invariant-loop-place l = l.memory ≡ words_over (take l.place l.words) l.initial.memory
