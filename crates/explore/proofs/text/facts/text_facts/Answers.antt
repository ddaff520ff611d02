use Rattle.lrc_script.specs.Plan.{plan_of}
use Rattle.explore.proofs.ChoosingFree.{choosing_free_numbers_small}
use Rattle.explore.proofs.MachineSteps.{machine_step_rows_few}
use Rattle.explore.proofs.text.facts.text_facts.Goals as goal

pub ends_of_all-requires-clause-few : goal.ends_of_all-requires-clause-few
ends_of_all-requires-clause-few c = machine_step_rows_few (plan_of c.args.script.now) c.args.steps.now c.requires

pub ends_of_all-requires-2-clause-few : goal.ends_of_all-requires-2-clause-few
ends_of_all-requires-2-clause-few c = machine_step_rows_few (plan_of c.args.script.now) c.args.steps.now c.requires

pub ends_of_all-requires-clause-small : goal.ends_of_all-requires-clause-small
ends_of_all-requires-clause-small c = choosing_free_numbers_small (plan_of c.args.script.now) c.args.steps.now c.requires

pub ends_of_all-requires-2-clause-small : goal.ends_of_all-requires-2-clause-small
ends_of_all-requires-2-clause-small c = choosing_free_numbers_small (plan_of c.args.script.now) c.args.steps.now c.requires
