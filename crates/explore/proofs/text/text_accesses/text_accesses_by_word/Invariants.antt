use Rattle.std.proofs.Common.{ℕ, ◌≡◌, ◌<◌, false, length}
use Rattle.std.specs.Prelude.{slice_index_or, vec_len}
use Rattle.explore.specs.UnguardedWords.{AreTextAccesses, AreTextAccessesOfRows, text_accesses_kept}
use Rattle.explore.proofs.text.text_accesses.text_accesses_by_word.Given as goal

abbrev pub invariant-loop-processor : goal.invariant-loop-processor
invariant-loop-processor l = record {
  long : vec_len l.kept ≡ length l.guarded;
  are : (w : ℕ) → AreTextAccesses l.steps w (text_accesses_kept l.kept.items w);
  noted : (w : ℕ) → w < length l.guarded → slice_index_or l.guarded w false ≡ false
      → AreTextAccessesOfRows l.steps w (text_accesses_kept l.kept.items w) l.processor;
}
