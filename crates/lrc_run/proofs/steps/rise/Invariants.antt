use Rattle.std.proofs.Common.{◌≡◌, length, take}
use Rattle.std.specs.List.{range_with_len}
use Rattle.lrc_run.proofs.steps.rise.Given as goal

abbrev pub invariant-loop-place : goal.invariant-loop-place
invariant-loop-place l = record {
  long : length l.list ≡ length l.fn.list;
  front : take l.place l.list ≡ range_with_len 0 l.place;
}
