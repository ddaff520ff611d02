use Rattle.std.proofs.Common.{◌≡◌, [], replicate}
use Rattle.explore.specs.Machines.{machine_rows}
use Rattle.explore.proofs.state.flat_state.flat_state_no_replies.Given as goal

abbrev pub invariant-loop : goal.invariant-loop
invariant-loop l = machine_rows l.all.items ≡ replicate l.counter []
