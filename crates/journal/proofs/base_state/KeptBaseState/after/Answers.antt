use Rattle.std.proofs.Common.{slice_index_or, subst, sym, arith}
use Rattle.std.proofs.lemmas.Option.{slice_get-get_or}
use Rattle.std.proofs.lemmas.List.{length-take-le}
use Rattle.journal.specs.declared.event.Kind.TheVariants.{Load}
use Rattle.journal.specs.DidEvent.{event}
use Rattle.journal.specs.EventsInRange.{EventAddressInRange}
use Rattle.journal.proofs.FromBase.KeptStep.{kept_step_long, kept_step_next}
use Rattle.journal.proofs.base_state.KeptBaseState.after.Goals as goal

pub note-requires-clause-address : goal.note-requires-clause-address
note-requires-clause-address c =
    let at =
    slice_get-get_or c.args.events.now c.loop-event.event-index (event 0 (Load 0 0)) c.loop-event-test.true in
    subst
    (λ n. EventAddressInRange n (slice_index_or c.args.events.now c.loop-event.event-index (event 0 (Load 0 0))).kind)
    (sym (kept_step_long c.args.self.now c.args.events.now c.loop-event.event-index c.loop-event.kept
    c.loop-event.invariant))
    (c.requires.addresses c.loop-event.event-index
    (slice_index_or c.args.events.now c.loop-event.event-index (event 0 (Load 0 0))) at)

pub loop-event-preserved : goal.loop-event-preserved
loop-event-preserved c =
    let at =
    slice_get-get_or c.args.events.now c.loop-event.event-index (event 0 (Load 0 0)) c.loop-event-test.true in
    kept_step_next at c.loop-event.invariant c.in_ok-note.ensures.after c.in_ok-note.ensures.spent

pub returns-clause-kept : goal.returns-clause-kept
returns-clause-kept c =
    let cut = c.loop-event.invariant.after.cut in
    let long = length-take-le c.loop-event.event-index c.args.events.now (omega arith) in
    record {
      long = kept_step_long c.args.self.now c.args.events.now c.loop-event.event-index c.loop-event.kept
          c.loop-event.invariant;
      few = omega (arith, c.requires.few);
      spent = c.loop-event.invariant.spent;
    }
