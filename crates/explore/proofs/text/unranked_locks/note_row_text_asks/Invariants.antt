use Rattle.std.proofs.Common.{ℕ, ◌≡◌}
use Rattle.explore.specs.TextGuards.{text_guard_departures_at, text_guard_held_at}
use Rattle.explore.specs.UnrankedLocks.{AreTextAsks}
use Rattle.explore.specs.WalkedWords.{walked_row_holds}
use Rattle.explore.proofs.text.unranked_locks.note_row_text_asks.Given as goal

abbrev pub invariant-loop-place : goal.invariant-loop-place
invariant-loop-place l = record {
  place : l.at.place ≡ l.place;
  phase : l.at.phase ≡ text_guard_departures_at l.row.items l.place;
  held : (q : ℕ) → walked_row_holds l.at q ≡ text_guard_held_at l.row.items l.place q;
  are : AreTextAsks l.steps l.initial.asks.items → AreTextAsks l.steps l.asks.items;
}
