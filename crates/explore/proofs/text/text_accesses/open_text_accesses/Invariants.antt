use Rattle.std.proofs.Common.{ℕ, ◌≡◌, ◌<◌, Some, slice_get}
use Rattle.base.specs.InOrderOnce.{Has}
use Rattle.explore.specs.declared.text.text_accesses.TextAccess.{TextAccess}
use Rattle.explore.specs.UnguardedWords.{AreTextAccessesApart}
use Rattle.explore.proofs.text.text_accesses.open_text_accesses.Given as goal

abbrev pub invariant-loop-place : goal.invariant-loop-place
invariant-loop-place l = (n : ℕ) (x y : TextAccess) → n < l.place → slice_get l.accesses n ≡ Some x → Has l.accesses y → AreTextAccessesApart x y
