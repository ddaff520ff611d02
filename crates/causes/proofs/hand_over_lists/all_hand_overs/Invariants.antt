use Rattle.std.proofs.Common.{◌≡◌, ℕ, Some, slice_get, vec_len}
use Rattle.std.specs.Global.{Vec}
use Rattle.causes.specs.HandOvers.{AreHandOvers}
use Rattle.causes.proofs.hand_over_lists.all_hand_overs.Given as goal

abbrev pub invariant-loop-place : goal.invariant-loop-place
invariant-loop-place l = record {
  long : vec_len l.last ≡ l.place;
  rows : (k : ℕ) (row : Vec ℕ) → slice_get l.last.items k ≡ Some row → AreHandOvers l.events k row.items;
}
