use Rattle.std.proofs.Common.{subst}
use Rattle.explore.specs.Machines.{IsProperMachineStep}
use Rattle.conformance.specs.Follows.{plan_sizes}
use Rattle.explore.proofs.MachineSteps.{machine_step_sizes_small}
use Rattle.explore.proofs.state.call_table.call_wait_after.Goals as goal

pub after-requires : goal.after-requires
after-requires c =
    let s = c.requires.0 in
    (plan_sizes s, machine_step_sizes_small s c.requires.1, (subst (IsProperMachineStep s) c.in-Call.is c.requires.2).0)
