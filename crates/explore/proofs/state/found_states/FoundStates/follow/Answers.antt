use Rattle.std.proofs.Common.{ap, refl, sym, ◌∙◌, ◌++◌, ◌∷◌, [], map}
use Rattle.std.proofs.lemmas.Option.{same_Some}
use Rattle.std.proofs.lemmas.Result.{on_ok_weaker}
use Rattle.journal.specs.declared.event.Event.{Event}
use Rattle.journal.specs.DidEvent.{did}
use Rattle.explore.specs.declared.state.wait_code.ProcessorNumber.{ProcessorNumber}
use Rattle.explore.proofs.AddedStates.{IsAddedStateFreelyReached, added_state_is_followed}
use Rattle.explore.specs.FoundStates.{found_states}
use Rattle.explore.proofs.MachineSteps.{machine_step_some_at}
use Rattle.explore.proofs.KeptStates.{kept_state_of_one_search}
use Rattle.explore.proofs.LikeMachines.{like_machine_knows}
use Rattle.explore.proofs.state.found_states.FoundStates.follow.Goals as goal

pub step-requires : goal.step-requires
step-requires c =
    let s = c.requires.may.0 in
    let may = c.requires.may.1 in
    let stored = machine_step_some_at (found_states c.args.self.now) c.args.place may.within in
    let f = stored.0 in
    let like = c.requires.state f stored.1 in
    let g = may.found.known c.args.place f stored.1 in
    record {
      plan = s;
      lawful = may.lawful;
      events = g.0;
      knows = like_machine_knows s g.0 f c.args.state like g.1;
      next = may.next f stored.1 g.0 g.1;
    }

pub make_free_run-requires-clause-running : goal.make_free_run-requires-clause-running
make_free_run-requires-clause-running c =
    let s = c.requires.may.0 in
    let may = c.requires.may.1 in
    let stored = machine_step_some_at (found_states c.args.self.now) c.args.place may.within in
    let f = stored.0 in
    let like = c.requires.state f stored.1 in
    let g = may.found.known c.args.place f stored.1 in
    record {
      plan = s;
      lawful = may.lawful;
      events = did g.0 c.args.event.processor c.args.event.kind;
      knows = c.in_ok-step.ensures.knows s g.0 may.lawful (like_machine_knows s g.0 f c.args.state like g.1)
          (may.next f stored.1 g.0 g.1);
    }

pub returns : goal.returns
returns c = on_ok_weaker c.add.result (λ added s may.
    let stored = machine_step_some_at (found_states c.args.self.now) c.args.place may.within in
    let f = stored.0 in
    let like = c.requires.state f stored.1 in
    let p = c.args.event.processor in
    let k = c.args.event.kind in
    let noted = c.in_ok-make_free_run.ensures in
    let went = noted.run in
    let came : IsAddedStateFreelyReached s c.args.steps.now c.args.place p k f c.make_free_run.new.state (record { from = c.args.place; makers = c.deref.result.now }) = record {
      more = noted.more;
      free = went.free;
      from = refl;
      makers = ap (map (λ (n : ProcessorNumber). n.0)) c.deref.ensures.0 ∙ noted.makers
          ∙ ap (λ ns. map (λ (n : ProcessorNumber). n.0) ns ++ map (λ (e : Event). e.processor) noted.more)
          (c.push.ensures.items ∙ ap (λ ns. ns ++ c.of.result ∷ []) c.new-makers.ensures)
          ∙ ap (λ q. q ∷ map (λ (e : Event). e.processor) noted.more) (same_Some c.of.result.0 p c.of.ensures);
      telling = went.telling ∙ c.in_ok-step.ensures.telling ∙ like.telling;
      knows = λ g knows. went.knows s (did g p k) may.lawful
          (c.in_ok-step.ensures.knows s g may.lawful (like_machine_knows s g f c.args.state like knows) (may.next f stored.1 g knows));
    } in
    added_state_is_followed may stored.1 came c.add.new.self added) c.add.ensures

pub of-requires : goal.of-requires
of-requires c = c.requires.may.1.small

pub add-requires-clause-kept : goal.add-requires-clause-kept
add-requires-clause-kept c = c.requires.may.1.found.kept

pub add-requires-clause-long : goal.add-requires-clause-long
add-requires-clause-long c = c.requires.may.1.found.long

pub add-requires-clause-from : goal.add-requires-clause-from
add-requires-clause-from c = c.requires.may.1.within

pub add-requires-clause-known : goal.add-requires-clause-known
add-requires-clause-known c =
    let s = c.requires.may.0 in
    let may = c.requires.may.1 in
    let stored = machine_step_some_at (found_states c.args.self.now) c.args.place may.within in
    let f = stored.0 in
    let g = may.found.known c.args.place f stored.1 in
    let noted = c.in_ok-make_free_run.ensures in
    let stepped = c.in_ok-step.ensures.knows s g.0 may.lawful (like_machine_knows s g.0 f c.args.state (c.requires.state f stored.1) g.1)
    (may.next f stored.1 g.0 g.1) in
    record {
      plan = s;
      table = may.found.calls;
      events = did g.0 c.args.event.processor c.args.event.kind ++ noted.more;
      knows = noted.run.knows s (did g.0 c.args.event.processor c.args.event.kind) may.lawful stepped;
    }

pub add-requires-clause-of_one : goal.add-requires-clause-of_one
add-requires-clause-of_one c =
    let s = c.requires.may.0 in
    let may = c.requires.may.1 in
    let stored = machine_step_some_at (found_states c.args.self.now) c.args.place may.within in
    let f = stored.0 in
    let like = c.requires.state f stored.1 in
    let g = may.found.known c.args.place f stored.1 in
    let noted = c.in_ok-make_free_run.ensures in
    let stepped = c.in_ok-step.ensures.knows s g.0 may.lawful (like_machine_knows s g.0 f c.args.state like g.1) (may.next f stored.1 g.0 g.1) in
    kept_state_of_one_search s _ c.args.self.now.first c.make_free_run.new.state may.found.begins
    (noted.run.knows s (did g.0 c.args.event.processor c.args.event.kind) may.lawful stepped)
    (sym (noted.run.telling ∙ c.in_ok-step.ensures.telling ∙ like.telling ∙ may.found.told c.args.place f stored.1))
