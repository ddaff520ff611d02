use Rattle.std.proofs.Common.{ℕ, ◌≡◌, ◌<◌, Some, slice_get}
use Rattle.explore.specs.declared.text.text_accesses.TextAccess.{TextAccess}
use Rattle.explore.specs.UnguardedWords.{AreTextAccessesApart}
use Rattle.explore.proofs.text.text_accesses.first_open_text_access.Given as goal

abbrev pub invariant-loop-place : goal.invariant-loop-place
invariant-loop-place l = (n : ℕ) (x : TextAccess) → n < l.place → slice_get l.accesses n ≡ Some x → AreTextAccessesApart l.access x
