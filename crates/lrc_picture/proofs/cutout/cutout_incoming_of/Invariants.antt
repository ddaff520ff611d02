use Rattle.std.proofs.Common.{◌≡◌, ℕ, ◌<◌, All, Some, length, slice_get, vec_len}
use Rattle.std.specs.Global.{Vec}
use Rattle.lrc_picture.proofs.cutout.cutout_incoming_of.Given as goal

abbrev pub invariant-loop-row : goal.invariant-loop-row
invariant-loop-row l = record {
  long : vec_len l.drawn ≡ l.row;
  within : (k : ℕ) (rows : Vec ℕ) → slice_get l.drawn.items k ≡ Some rows → All (λ i. i < length l.places) rows.items;
}
