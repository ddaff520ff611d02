use Rattle.std.proofs.Common.{◌≡◌, ◌≤◌, ◌++◌, map, length, vec_len, vec_capacity}
use Rattle.std.specs.Vec.{vec_items}
use Rattle.std.specs.Vec.Iter.{into_iter_items}
use Rattle.cluster.specs.Finishing.{AreDismantledToFinish}
use Rattle.cluster.proofs.cluster.finishing.finish_taking_apart.Given as goal

abbrev pub invariant-loop-processor : goal.invariant-loop-processor
invariant-loop-processor g l = record {
  came : l.yielded ++ into_iter_items l.processor-iterator ≡ l.fn.processors.items;
  apart : AreDismantledToFinish l.yielded l.chairs.items (map vec_items l.blocks.items);
  chairs : vec_len l.chairs ≡ length l.yielded;
  blocks : vec_len l.blocks ≡ length l.yielded;
  room : 16 ≤ vec_capacity l.chairs;
  more_room : 16 ≤ vec_capacity l.blocks;
}
