use Rattle.std.proofs.Common.{◌++◌, subst, arith}
use Rattle.explore.specs.FreeChoice.{IsFreeForChoiceByWords}
use Rattle.explore.proofs.ChoosingFree.{choosing_free_where_guarded}
use Rattle.explore.proofs.FreeRuns.{free_run_noted_push, free_run_noted_start}
use Rattle.explore.proofs.MachineSteps.{machine_step_rows_few}
use Rattle.explore.proofs.search.free_run.make_free_run.Goals as goal

pub loop-state-init : goal.loop-state-init
loop-state-init c = free_run_noted_start c.args.steps.now c.args.state.now c.args.makers.now.items

pub free_run_next-requires : goal.free_run_next-requires
free_run_next-requires c =
    let running = c.requires.running in
    let went = c.loop-state.invariant in
    record {
      plan = running.plan;
      lawful = running.lawful;
      events = running.events ++ went.more;
      knows = went.run.knows running.plan running.events running.lawful running.knows;
    }

pub step-requires : goal.step-requires
step-requires c =
    let running = c.requires.running in
    let s = running.plan in
    let went = c.loop-state.invariant in
    let g = running.events ++ went.more in
    let knows = went.run.knows s running.events running.lawful running.knows in
    record {
      plan = s;
      lawful = running.lawful;
      events = g;
      knows = knows;
      next = c.in-Some.ensures.next s g running.lawful knows;
    }

pub of-requires : goal.of-requires
of-requires c =
    let few = machine_step_rows_few c.requires.running.plan c.args.steps.now c.requires.running.lawful in
    let within = c.in-Some.ensures.processor in
    omega (arith, few, within)

pub loop-state-preserved : goal.loop-state-preserved
loop-state-preserved c =
    let rows = c.args.steps.now in
    let e = c.in-Some.event in
    let free = choosing_free_where_guarded rows c.args.facts.now.guarded.items e.kind c.requires.facts.guarded
    (subst (λ words. IsFreeForChoiceByWords words e.kind) c.deref.ensures.value c.in-Some.ensures.free) in
    free_run_noted_push rows c.step.new.self e c.of.result c.loop-state.invariant free c.in_ok-step.ensures.telling
    (λ s g lawful knows. c.in_ok-step.ensures.knows s g lawful knows (c.in-Some.ensures.next s g lawful knows)) c.of.ensures c.push.ensures.items
