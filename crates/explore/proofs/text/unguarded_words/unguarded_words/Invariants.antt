use Rattle.explore.proofs.UnguardedWords.{AreUnguardedWordsSoFar}
use Rattle.explore.proofs.text.unguarded_words.unguarded_words.Given as goal

abbrev pub invariant-loop-word : goal.invariant-loop-word
invariant-loop-word l = AreUnguardedWordsSoFar l.steps l.guarded l.words.items l.word
