use Rattle.std.proofs.Common.{◌≡◌, vec_len}
use Rattle.explore.proofs.text.walked_words.WalkedWord.new.Given as goal

abbrev pub invariant-loop : goal.invariant-loop
invariant-loop l = vec_len l.uses ≡ l.counter
