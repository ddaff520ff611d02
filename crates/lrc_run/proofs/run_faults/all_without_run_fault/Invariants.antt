use Rattle.std.proofs.Common.{◌≡◌, ◌++◌, Ok, map}
use Rattle.std.specs.Vec.Iter.{into_iter_items}
use Rattle.lrc_run.proofs.run_faults.all_without_run_fault.Given as goal

abbrev pub invariant-loop-outcome : goal.invariant-loop-outcome
invariant-loop-outcome g l = record {
  came : l.yielded ++ into_iter_items l.outcome-iterator ≡ l.fn.outcomes.items;
  all : map Ok l.all.items ≡ l.yielded;
}
