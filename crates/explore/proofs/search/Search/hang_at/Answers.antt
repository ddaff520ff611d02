use Rattle.std.proofs.Common.{refl}
use Rattle.lrc_script.specs.Plan.{plan_of}
use Rattle.explore.specs.FoundStates.{found_states}
use Rattle.explore.proofs.LikeMachines.{like_machine_knows}
use Rattle.explore.proofs.MachineSteps.{machine_step_some_at}
use Rattle.explore.proofs.search.Search.hang_at.Goals as goal

pub events_to-requires-clause-found : goal.events_to-requires-clause-found
events_to-requires-clause-found c = (plan_of c.args.script.now, c.requires.steps, c.requires.found)

pub returns : goal.returns
returns c =
    let s = plan_of c.args.script.now in
    let stored = machine_step_some_at (found_states c.args.self.now.found) c.args.place c.requires.hangs.within in
    let f = stored.0 in
    let events = c.in_ok-events_to.field-0.items in
    let knows = c.in_ok-events_to.ensures s c.requires.steps c.requires.found f stored.1 in
    record {
      is = c.requires.hangs.hangs f events stored.1 knows;
      long = c.in_ok-waits.ensures.long;
      waits = c.in_ok-waits.ensures.waits s events refl (like_machine_knows s events f c.in_ok-at.field-0 (c.in_ok-at.ensures f stored.1) knows);
    }

pub at-requires-clause-kept : goal.at-requires-clause-kept
at-requires-clause-kept c = c.requires.found.kept
