use Rattle.std.proofs.Common.{◌++◌, ◌∷◌, [], List, take, refl, sym, ap, subst, ◌∙◌, arith}
use Rattle.std.specs.Prelude.{IsSome}
use Rattle.std.proofs.lemmas.Option.{same_Some}
use Rattle.journal.specs.declared.event.Event.{Event}
use Rattle.journal.specs.DidEvent.{did, event}
use Rattle.lrc_script.specs.Plan.{Plan}
use Rattle.explore.specs.FoundStates.{AreEventsOfMakers}
use Rattle.explore.specs.Machines.{MachineKnows}
use Rattle.explore.specs.Prefixes.FlatBeginnings.{IsFlatBeginning}
use Rattle.explore.proofs.MadeEvents.{made_event_next, made_events_long}
use Rattle.explore.proofs.state.found_states.events_of_makers.Goals as goal

pub next-requires-clause-processor : goal.next-requires-clause-processor
next-requires-clause-processor c =
    (made_event_next c.requires.0 c.args.steps.now c.args.first c.requires.1 c.args.makers.now c.loop-maker.maker-index c.processor-processor.result
    c.loop-maker-test.true (same_Some _ _ c.processor-processor.ensures) c.requires.2).within

pub next-requires-clause-running : goal.next-requires-clause-running
next-requires-clause-running c = record {
  plan = c.requires.0;
  lawful = c.requires.2.lawful;
  events = take c.loop-maker.maker-index c.requires.1;
  knows = c.loop-maker.invariant.knows c.requires.0 c.requires.1 c.requires.2;
}

pub unwrap-kind-requires : goal.unwrap-kind-requires
unwrap-kind-requires c =
    let s = c.requires.0 in
    let next = made_event_next s c.args.steps.now c.args.first c.requires.1 c.args.makers.now c.loop-maker.maker-index c.processor-processor.result
    c.loop-maker-test.true (same_Some _ _ c.processor-processor.ensures) c.requires.2 in
    let is = (c.next.ensures s (take c.loop-maker.maker-index c.requires.1) c.requires.2.lawful
    (c.loop-maker.invariant.knows s c.requires.1 c.requires.2) next.kind).1 next.begins in
    subst IsSome (sym is) refl

pub step-requires : goal.step-requires
step-requires c =
    let s = c.requires.0 in
    let g = take c.loop-maker.maker-index c.requires.1 in
    let knows = c.loop-maker.invariant.knows s c.requires.1 c.requires.2 in
    record {
      plan = s;
      lawful = c.requires.2.lawful;
      events = g;
      knows = knows;
      next = (c.next.ensures s g c.requires.2.lawful knows c.unwrap-kind.result).0 (c.unwrap-kind.ensures);
    }

pub loop-maker-preserved : goal.loop-maker-preserved
loop-maker-preserved c =
    let i = c.loop-maker.maker-index in
    let p = c.processor-processor.result in
    let next = λ (s : Plan) (es : List Event) (are : AreEventsOfMakers s c.args.steps.now c.args.first es c.args.makers.now).
    made_event_next s c.args.steps.now c.args.first es c.args.makers.now i p c.loop-maker-test.true (same_Some _ _ c.processor-processor.ensures) are in
    -- what comes next is the event of the run
    let now = λ (s : Plan) (es : List Event) (are : AreEventsOfMakers s c.args.steps.now c.args.first es c.args.makers.now).
    same_Some c.unwrap-kind.result (next s es are).kind (sym c.unwrap-kind.ensures
    ∙ (c.next.ensures s (take i es) are.lawful (c.loop-maker.invariant.knows s es are) (next s es are).kind).1 (next s es are).begins) in
    record {
      made = λ s es are.
          c.in_ok-push.ensures.items
          ∙ ap (λ xs. xs ++ event p c.unwrap-kind.result ∷ []) (c.loop-maker.invariant.made s es are)
          ∙ ap (λ k. did (take i es) p k) (now s es are) ∙ sym (next s es are).front;
      knows = λ s es are.
          subst (λ xs. MachineKnows s xs c.step.new.self) (ap (λ k. did (take i es) p k) (now s es are) ∙ sym (next s es are).front)
          (c.in_ok-step.ensures.knows s (take i es) are.lawful (c.loop-maker.invariant.knows s es are)
          (subst (λ k. IsFlatBeginning s (did (take i es) p k)) (sym (now s es are)) (next s es are).begins));
    }

pub returns : goal.returns
returns c = λ s es are.
    c.loop-maker.invariant.made s es are
    ∙ made_events_long s c.args.steps.now c.args.first es c.args.makers.now c.loop-maker.maker-index (let over = c.loop-maker-test.false in omega (arith, over)) are
