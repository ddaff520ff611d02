use Rattle.std.proofs.Common.{◌≤◌, vec_len}
use Rattle.lrc_picture.specs.Cutout.{AreCutoutLanes}
use Rattle.lrc_picture.proofs.cutout.cutout_lanes_of.Given as goal

abbrev pub invariant-loop-processor : goal.invariant-loop-processor
invariant-loop-processor l = record {
  lanes : AreCutoutLanes l.part l.processor l.lanes.items;
  few : vec_len l.lanes ≤ l.processor;
}
