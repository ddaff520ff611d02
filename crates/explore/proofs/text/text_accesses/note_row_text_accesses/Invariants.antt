use Rattle.std.proofs.Common.{ℕ, ◌≡◌, ◌<◌, false, length}
use Rattle.std.specs.Prelude.{slice_index_or, vec_len}
use Rattle.base.specs.InOrderOnce.{Has}
use Rattle.explore.specs.declared.text.text_accesses.TextAccess.{TextAccess}
use Rattle.explore.specs.TextGuards.{text_guard_departures_at, text_guard_held_at}
use Rattle.explore.specs.UnguardedWords.{AreTextAccesses, AreTextAccessesOfRow, text_accesses_kept}
use Rattle.explore.specs.WalkedWords.{walked_row_holds}
use Rattle.explore.proofs.text.text_accesses.note_row_text_accesses.Given as goal

abbrev pub invariant-loop-place : goal.invariant-loop-place
invariant-loop-place l = record {
  place : l.at.place ≡ l.place;
  phase : l.at.phase ≡ text_guard_departures_at l.row.items l.place;
  held : (q : ℕ) → walked_row_holds l.at q ≡ text_guard_held_at l.row.items l.place q;
  long : vec_len l.kept ≡ length l.guarded;
  keeps : (w : ℕ) (x : TextAccess) → Has (text_accesses_kept l.initial.kept.items w) x → Has (text_accesses_kept l.kept.items w) x;
  are : (w : ℕ) → AreTextAccesses l.steps w (text_accesses_kept l.initial.kept.items w) → AreTextAccesses l.steps w (text_accesses_kept l.kept.items w);
  noted : (w : ℕ) → w < length l.guarded → slice_index_or l.guarded w false ≡ false
      → AreTextAccessesOfRow l.steps w (text_accesses_kept l.kept.items w) l.processor l.place;
}
