use Rattle.std.proofs.Common.{◌≡◌, ◌+◌, ℕ, List, [], ◌∷◌, ◌++◌, slice_index_or, take, subst, sym, ap, ◌∙◌, arith}
use Rattle.std.proofs.lemmas.List.{take_all}
use Rattle.std.proofs.lemmas.Option.{slice_get-get_or}
use Rattle.journal.specs.declared.event.Event.{Event}
use Rattle.journal.specs.declared.event.Kind.TheVariants.{Load}
use Rattle.journal.specs.DidEvent.{event}
use Rattle.journal.specs.EventsInRange.{EventAddressInRange}
use Rattle.journal.specs.Log.{Log}
use Rattle.journal.proofs.Passes.NextClocks.{next_clocks_front}
use Rattle.c_library.proofs.replaying.replaying_journal_of.Goals as goal

-- the event at this place
abbrev here : List Event → ℕ → Event
here events place = slice_index_or events place (event 0 (Load 0 0))

pub append-requires-clause-processor : goal.append-requires-clause-processor
append-requires-clause-processor c =
    let events = c.args.events.now in
    let i = c.loop-event.event-index in
    let there = slice_get-get_or events i (event 0 (Load 0 0)) c.loop-event-test.true in
    let lt = c.requires.processors i (here events i) there in
    let same = c.loop-event.invariant.processors in
    omega arith

pub append-requires-clause-address : goal.append-requires-clause-address
append-requires-clause-address c =
    let events = c.args.events.now in
    let i = c.loop-event.event-index in
    let there = slice_get-get_or events i (event 0 (Load 0 0)) c.loop-event-test.true in
    subst (λ n. EventAddressInRange n (here events i).kind) (sym c.loop-event.invariant.addresses)
    (c.requires.addresses i (here events i) there)

pub loop-event-preserved : goal.loop-event-preserved
loop-event-preserved c =
    let events = c.args.events.now in
    let i = c.loop-event.event-index in
    let e = here events i in
    let there = slice_get-get_or events i (event 0 (Load 0 0)) c.loop-event-test.true in
    let old = c.loop-event.invariant in
    let is = c.append.ensures in
    let next : take (i + 1) events ≡ take i events ++ e ∷ [] = next_clocks_front events i e there in
    record {
      processors = ap (λ (j : Log). j.processors) is ∙ old.processors;
      addresses = ap (λ (j : Log). j.addresses) is ∙ old.addresses;
      events =
          ap (λ (j : Log). j.events) is ∙ ap (λ (h : List Event). h ++ e ∷ []) old.events ∙ sym next;
      room =
          (let room = ap (λ (j : Log). j.room) is in
          let was = old.room in
          let lt = c.loop-event-test.true in
          omega arith);
      base = ap (λ (j : Log). j.base) is ∙ old.base;
    }

pub returns : goal.returns
returns c =
    let old = c.loop-event.invariant in
    record {
      events = old.events ∙ take_all c.loop-event.event-index c.args.events.now c.loop-event-test.false;
      base = old.base;
    }
