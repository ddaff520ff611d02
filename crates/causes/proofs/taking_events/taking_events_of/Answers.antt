use Rattle.std.proofs.Common.{◌≡◌, ◌+◌, length, subst, sym, ◌∙◌, arith}
use Rattle.journal.specs.EventsInRange.{EventProcessorsInRange}
use Rattle.causes.specs.TakingEvents.{AreAllTakingEvents}
use Rattle.causes.proofs.taking_events.taking_events_of.Goals as goal

pub next_step-requires-clause-processors : goal.next_step-requires-clause-processors
next_step-requires-clause-processors c =
    subst (λ n. EventProcessorsInRange n c.args.events.now) (sym c.loop-place.invariant.present) c.requires.processors

pub next_step-requires-clause-so_far : goal.next_step-requires-clause-so_far
next_step-requires-clause-so_far c = c.loop-place.invariant.cuts

pub add_taking_event-requires-clause-step : goal.add_taking_event-requires-clause-step
add_taking_event-requires-clause-step c = c.in_ok-step.ensures.step

pub add_taking_event-requires-clause-so_far : goal.add_taking_event-requires-clause-so_far
add_taking_event-requires-clause-so_far c =
    subst (λ n. AreAllTakingEvents c.args.events.now n c.loop-place.takings.items) (sym c.in_ok-step.ensures.place)
    c.loop-place.invariant.takings

pub loop-place-preserved : goal.loop-place-preserved
loop-place-preserved c =
    let events = c.args.events.now in
    let old = c.loop-place.invariant in
    record {
      cuts = c.in_ok-step.ensures.cuts;
      present = c.in_ok-step.ensures.present ∙ old.present;
      takings = subst (λ n. AreAllTakingEvents events (n + 1) c.add_taking_event.new.takings.items) c.in_ok-step.ensures.place
          c.in_ok-add_taking_event.ensures;
    }

pub returns : goal.returns
returns c =
    let over = c.loop-place-test.false in
    let top = c.loop-place.auto.place-end in
    let is : c.loop-place.place ≡ length c.args.events.now = omega arith in
    subst (λ n. AreAllTakingEvents c.args.events.now n c.loop-place.takings.items) is c.loop-place.invariant.takings
