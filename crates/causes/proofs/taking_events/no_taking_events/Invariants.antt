use Rattle.std.proofs.Common.{◌≡◌, ℕ, [], Some, slice_get, vec_len}
use Rattle.std.specs.Global.{Vec}
use Rattle.causes.specs.declared.taking_events.Taking.{Taking}
use Rattle.causes.proofs.taking_events.no_taking_events.Given as goal

abbrev pub invariant-loop : goal.invariant-loop
invariant-loop l = record {
  long : vec_len l.takings ≡ l.counter;
  empty : (n : ℕ) (row : Vec Taking) → slice_get l.takings.items n ≡ Some row → row.items ≡ [];
}
