use Rattle.std.proofs.Common.{◌∙◌, List, ℕ, take, slice_index_or, sym, subst, arith}
use Rattle.std.proofs.lemmas.Grind.{elements}
use Rattle.std.proofs.lemmas.List.{length-take-le}
use Rattle.std.proofs.lemmas.Option.{slice_get-get_or}
use Rattle.journal.specs.declared.event.Event.{Event}
use Rattle.journal.specs.declared.event.Kind.TheVariants.{Load}
use Rattle.journal.specs.DidEvent.{event}
use Rattle.journal.specs.EventsInRange.{EventAddressInRange}
use Rattle.journal.proofs.Passes.NextClocks.{next_clocks_front}
use Rattle.judge.specs.KeptStores.{AreKeptStoresOf}
use Rattle.lrc_script.specs.Plan.{plan_of}
use Rattle.explore.proofs.AllowedRuns.NextAllowed.{next_allowed_addresses, next_allowed_length_few, next_allowed_processors}
use Rattle.explore.proofs.rules.answers.answer_sources.Goals as goal

-- the event at this place
abbrev here : List Event → ℕ → Event
here events place = slice_index_or events place (event 0 (Load 0 0))

pub note-requires-clause-few : goal.note-requires-clause-few
note-requires-clause-few c =
    let few = next_allowed_length_few (plan_of c.args.script.now) c.args.events.now c.requires.lawful c.requires.allowed in
    let lt = c.loop-place-test.true in
    let long = length-take-le c.loop-place.place c.args.events.now (omega arith) in
    let at = c.loop-place.invariant.tells.cuts.place in
    omega arith

pub note-requires-clause-processor : goal.note-requires-clause-processor
note-requires-clause-processor c =
    let at = slice_get-get_or c.args.events.now c.loop-place.place (event 0 (Load 0 0)) c.loop-place-test.true in
    let lt = next_allowed_processors (plan_of c.args.script.now) c.args.events.now c.requires.allowed c.loop-place.place
    (here c.args.events.now c.loop-place.place) at in
    let same = c.loop-place.invariant.processors in
    omega arith

pub note-requires-clause-address : goal.note-requires-clause-address
note-requires-clause-address c =
    let e = here c.args.events.now c.loop-place.place in
    let at = slice_get-get_or c.args.events.now c.loop-place.place (event 0 (Load 0 0)) c.loop-place-test.true in
    subst (λ n. EventAddressInRange n e.kind) (sym c.loop-place.invariant.addresses)
    (next_allowed_addresses (plan_of c.args.script.now) c.args.events.now c.requires.allowed c.loop-place.place e at)

pub loop-place-preserved : goal.loop-place-preserved
loop-place-preserved c =
    let events = c.args.events.now in
    let place = c.loop-place.place in
    let at = slice_get-get_or events place (event 0 (Load 0 0)) c.loop-place-test.true in
    let old = c.loop-place.invariant in
    record {
      tells = subst (λ j. AreKeptStoresOf j c.note.new.self) (sym (next_clocks_front events place (here events place) at))
          (c.in_ok-note.ensures.tells (take place events) old.tells);
      processors = c.note.ensures.processors ∙ old.processors;
      addresses = c.note.ensures.addresses ∙ old.addresses;
    }

pub returns-clause-tells : goal.returns-clause-tells
returns-clause-tells c = grind (arith, elements)
