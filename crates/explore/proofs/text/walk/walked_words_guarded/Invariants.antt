use Rattle.std.proofs.Common.{◌≡◌, map, take}
use Rattle.explore.specs.declared.text.walked_words.WalkedWord.{WalkedWord}
use Rattle.explore.proofs.text.walk.walked_words_guarded.Given as goal

abbrev pub invariant-loop-word : goal.invariant-loop-word
invariant-loop-word l = l.guarded.items ≡ map (λ (x : WalkedWord). x.is_guarded) (take l.word-index l.words)
