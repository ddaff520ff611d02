use Rattle.std.proofs.Common.{ℕ, ◌≡◌, ◌+◌, ◌<◌, ◌≤◌, cond, length, max, slice_index}
use Rattle.explore.specs.WalkedWords.{walked_row_holds}
use Rattle.explore.proofs.text.walked_words.WalkedUser.unlocked_until_with.Given as goal

abbrev pub invariant-loop-lock : goal.invariant-loop-lock
invariant-loop-lock l = record {
  long : length l.all ≡ 32;
  told : (m : ℕ) → m < l.lock → slice_index l.all m ≡ max (slice_index l.self.unlocked_until m) (cond (walked_row_holds l.row m) 0 (l.row.place + 1));
  rest : (m : ℕ) → l.lock ≤ m → slice_index l.all m ≡ slice_index l.self.unlocked_until m;
}
