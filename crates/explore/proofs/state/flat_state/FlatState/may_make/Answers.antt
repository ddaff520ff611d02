use Rattle.std.proofs.Common.{refl}
use Rattle.conformance.specs.Follows.{plan_sizes}
use Rattle.explore.proofs.MachineSteps.{machine_step_rows_many, machine_step_sizes_small}
use Rattle.explore.proofs.state.flat_state.FlatState.may_make.Goals as goal

pub may_follow-requires : goal.may_follow-requires
may_follow-requires c =
    let run = c.requires.running in
    record {
      sizes = plan_sizes run.plan;
      small = machine_step_sizes_small run.plan run.lawful.lawful;
      processors_are = machine_step_rows_many run.plan c.args.steps.now run.lawful;
      processor = c.requires.processor;
      in_range = (c.requires.next run.plan run.lawful).in_range;
      events = run.events;
      tells = run.knows.waiting;
    }

pub returns : goal.returns
returns c = λ s g lawful knows.
    let call = c.requires.next s lawful in
    let next = call.next g c.args.kind knows in
    let may = c.may_follow.ensures (plan_sizes s) g (machine_step_rows_many s c.args.steps.now lawful) call.in_range knows.waiting in
    (λ yes. next.1 (may.0 yes, refl), λ h. may.1 (next.0 h).0)
