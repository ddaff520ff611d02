use Rattle.lrc_script.specs.Plan.{plan_of}
use Rattle.explore.proofs.MachineSteps.{machine_step_rows_few}
use Rattle.explore.proofs.Locksets.Noted.{lockset_noted_each_few, lockset_noted_rows_within}
use Rattle.explore.proofs.text.flag_orders.FlagOrders.of.Goals as goal

pub new-requires-2 : goal.new-requires-2
new-requires-2 c =
    let plan = plan_of c.args.script.now in
    let steps = c.args.steps.now in
    record {
      few = machine_step_rows_few plan steps c.requires;
      short = lockset_noted_each_few plan steps c.requires;
      within = lockset_noted_rows_within plan steps c.requires;
    }
