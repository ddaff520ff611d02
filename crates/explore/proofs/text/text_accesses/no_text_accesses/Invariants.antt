use Rattle.std.proofs.Common.{ℕ, ◌≡◌, []}
use Rattle.std.specs.Prelude.{vec_len}
use Rattle.explore.specs.UnguardedWords.{text_accesses_kept}
use Rattle.explore.proofs.text.text_accesses.no_text_accesses.Given as goal

abbrev pub invariant-loop : goal.invariant-loop
invariant-loop l = record {
  long : vec_len l.kept ≡ l.counter;
  none : (w : ℕ) → text_accesses_kept l.kept.items w ≡ [];
}
