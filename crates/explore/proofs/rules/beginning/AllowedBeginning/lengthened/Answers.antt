use Rattle.std.proofs.Common.{[], ◌∷◌, ◌++◌, ap, sym, subst, ◌∙◌, arith, ◌<◌}
use Rattle.journal.specs.DidEvent.{event}
use Rattle.conformance.specs.Follows.{plan_sizes}
use Rattle.explore.specs.AllowedRuns.{IsAllowedRunBeginning}
use Rattle.explore.specs.AllowedBeginnings.{allowed_beginning_events}
use Rattle.explore.specs.KeptWaiting.{TellsKeptWaiting}
use Rattle.explore.proofs.LikeMachines.{like_machine_waiting_tells}
use Rattle.explore.proofs.MachineSteps.{machine_step_sizes_small}
use Rattle.explore.proofs.AllowedRuns.NextAllowed.{next_allowed_length_few, next_allowed_exactly}
use Rattle.explore.proofs.rules.beginning.AllowedBeginning.lengthened.Goals as goal

pub note-requires : goal.note-requires
note-requires c =
    let s = c.requires.0 in
    let may = c.requires.1 in
    let g = allowed_beginning_events c.args.self.now in
    record {
      sizes = plan_sizes s;
      small = machine_step_sizes_small s may.lawful;
      events = g;
      tells = like_machine_waiting_tells g c.args.self.now.waiting c.in_ok-longer.longer.waiting c.in_ok-longer.ensures.waiting may.tells.waiting;
      may_follow = ((next_allowed_exactly s g c.args.processor c.args.kind).0 may.next).1.may_follow;
      few = next_allowed_length_few s g may.lawful may.tells.beginning;
    }

pub returns-clause-told : goal.returns-clause-told
returns-clause-told c = λ s may.
    let g = allowed_beginning_events c.args.self.now in
    let follow = ((next_allowed_exactly s g c.args.processor c.args.kind).0 may.next).1.may_follow in
    let within = follow.processor in
    let most = may.lawful.but_uneven.sizes.most_processors in
    let small : c.args.processor < 16 = omega arith in
    let are = c.in_ok-push.ensures.items ∙ ap (λ es. es ++ event c.args.processor c.args.kind ∷ []) c.in_ok-longer.ensures.events in
    let old = like_machine_waiting_tells g c.args.self.now.waiting c.in_ok-longer.longer.waiting c.in_ok-longer.ensures.waiting may.tells.waiting in
    record {
      beginning = subst (IsAllowedRunBeginning s) (sym are) may.next;
      waiting = subst (λ j. TellsKeptWaiting j c.note.new.self) (sym are) (c.in_ok-note.ensures (plan_sizes s) g old follow small);
    }
