use Rattle.std.proofs.Common.{◌≡◌, vec_len}
use Rattle.test_memory.specs.Reaching.Reach.{AreRows}
use Rattle.test_memory.proofs.reaching.reach_table.ReachTable.new.Given as goal

abbrev pub invariant-loop-place : goal.invariant-loop-place
invariant-loop-place l = record {
  long : vec_len l.rows ≡ l.place;
  rows : AreRows l.events l.rows.items;
}
