use Rattle.std.proofs.Common.{ℕ, ◌≡◌}
use Rattle.explore.specs.TextGuards.{text_guard_departures_at, text_guard_held_at}
use Rattle.explore.specs.WalkedWords.{walked_row_holds}
use Rattle.explore.proofs.text.unranked_locks.text_wait_in_row.Given as goal

abbrev pub invariant-loop-place : goal.invariant-loop-place
invariant-loop-place l = record {
  place : l.at.place ≡ l.place;
  phase : l.at.phase ≡ text_guard_departures_at l.row.items l.place;
  held : (q : ℕ) → walked_row_holds l.at q ≡ text_guard_held_at l.row.items l.place q;
}
