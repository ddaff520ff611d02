use Rattle.std.proofs.Common.{ℕ, List, take, slice_index_or, subst, sym, ◌∙◌, arith}
use Rattle.std.proofs.lemmas.List.{length-take-le}
use Rattle.std.proofs.lemmas.Option.{slice_get-get_or}
use Rattle.journal.specs.declared.event.Event.{Event}
use Rattle.journal.specs.declared.event.Kind.TheVariants.{Load}
use Rattle.journal.specs.DidEvent.{event}
use Rattle.journal.specs.EventsInRange.{EventAddressInRange}
use Rattle.journal.specs.Races.{IsFirstRace, RaceFree}
use Rattle.journal.proofs.Order.EventPlacesAndCounts.{event_place_inside}
use Rattle.journal.proofs.Passes.NextClocks.{next_clocks_front}
use Rattle.judge.specs.NearestRaces.{AreNearestRacesOf}
use Rattle.judge.proofs.FirstRaces.{first_race_found, first_race_none}
use Rattle.judge.proofs.history.History.first_race.Goals as goal

-- the event at this place
abbrev here : List Event → ℕ → Event
here events place = slice_index_or events place (event 0 (Load 0 0))

pub first-requires-clause-processor : goal.first-requires-clause-processor
first-requires-clause-processor c =
    let events = c.events-events.result.now in
    let place = c.loop-place.place in
    let at = slice_get-get_or events place (event 0 (Load 0 0)) c.loop-place-test.true in
    let lt = c.events-events.ensures.processors place (here events place) at in
    let same = c.loop-place.invariant.processors in
    omega arith

pub first-requires-clause-address : goal.first-requires-clause-address
first-requires-clause-address c =
    let events = c.events-events.result.now in
    let place = c.loop-place.place in
    let at = slice_get-get_or events place (event 0 (Load 0 0)) c.loop-place-test.true in
    subst (λ n. EventAddressInRange n (here events place).kind) (sym c.loop-place.invariant.addresses)
    (c.events-events.ensures.addresses place (here events place) at)

pub note-requires-clause-few : goal.note-requires-clause-few
note-requires-clause-few c =
    let events = c.events-events.result.now in
    let place = c.loop-place.place in
    let lt = c.loop-place-test.true in
    let few = c.events-events.ensures.few in
    let long = length-take-le place events (omega arith) in
    let at = c.loop-place.invariant.tells.cuts.place in
    omega arith

pub note-requires-clause-processor : goal.note-requires-clause-processor
note-requires-clause-processor c =
    let events = c.events-events.result.now in
    let place = c.loop-place.place in
    let at = slice_get-get_or events place (event 0 (Load 0 0)) c.loop-place-test.true in
    let lt = c.events-events.ensures.processors place (here events place) at in
    let same = c.loop-place.invariant.processors in
    omega arith

pub note-requires-clause-address : goal.note-requires-clause-address
note-requires-clause-address c =
    let events = c.events-events.result.now in
    let place = c.loop-place.place in
    let at = slice_get-get_or events place (event 0 (Load 0 0)) c.loop-place-test.true in
    subst (λ n. EventAddressInRange n (here events place).kind) (sym c.loop-place.invariant.addresses)
    (c.events-events.ensures.addresses place (here events place) at)

pub returns-in-Some : goal.returns-in-Some
returns-in-Some c =
    let events = c.events-events.result.now in
    let place = c.loop-place.place in
    let at = slice_get-get_or events place (event 0 (Load 0 0)) c.loop-place-test.true in
    subst (λ j. IsFirstRace j c.in-Some.first place) c.events-events.ensures.value
    (first_race_found at c.loop-place.invariant.free c.in-Some.ensures)

pub loop-place-preserved : goal.loop-place-preserved
loop-place-preserved c =
    let events = c.events-events.result.now in
    let place = c.loop-place.place in
    let e = here events place in
    let at = slice_get-get_or events place (event 0 (Load 0 0)) c.loop-place-test.true in
    let old = c.loop-place.invariant in
    record {
      tells = subst (λ j. AreNearestRacesOf j c.note.new.self) (sym (next_clocks_front events place e at))
          (c.in_ok-note.ensures.tells (take place events) old.tells);
      processors = c.note.ensures.processors ∙ old.processors;
      addresses = c.note.ensures.addresses ∙ old.addresses;
      free = first_race_none at old.free c.in_default.ensures;
    }

pub returns : goal.returns
returns c =
    subst RaceFree c.events-events.ensures.value
    (λ i k r.
    (let within = event_place_inside c.events-events.result.now k r.second r.second_at in
    let over = c.loop-place-test.false in
    c.loop-place.invariant.free i k (omega arith) r))
