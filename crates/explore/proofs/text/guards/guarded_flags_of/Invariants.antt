use Rattle.std.proofs.Common.{◌≡◌, map, take}
use Rattle.explore.specs.declared.text.guards.GuardedWordUse.{GuardedWordUse}
use Rattle.explore.proofs.text.guards.guarded_flags_of.Given as goal

abbrev pub invariant-loop-word : goal.invariant-loop-word
invariant-loop-word l = l.flags.items ≡ map (λ (x : GuardedWordUse). x.is_guarded) (take l.word-index l.words)
