use Rattle.std.proofs.Common.{◌≡◌, ℕ, ◌<◌, ◌≤◌, ◌⊎◌, Some, length, slice_get}
use Rattle.judge.specs.declared.locksets.lockset_finder.Unprotected.{Unprotected}
use Rattle.c_library.specs.ToldWords.{told_word_of}
use Rattle.c_library.proofs.told_words.write_told_words.Given as goal

abbrev pub invariant-loop-place : goal.invariant-loop-place
invariant-loop-place l = record {
  long : length l.room ≡ length l.fn.room;
  told : (k : ℕ) (w : Unprotected) → k < l.place → slice_get l.found k ≡ Some w → slice_get l.room k ≡ Some (told_word_of w);
  stays : (k : ℕ) → (l.place ≤ k) ⊎ (length l.found ≤ k) → slice_get l.room k ≡ slice_get l.fn.room k;
}
