use Rattle.std.proofs.Common.{slice_index_or, refl, subst, arith}
use Rattle.journal.specs.declared.event.Event.{Event}
use Rattle.journal.specs.declared.event.Kind.TheVariants.{Load}
use Rattle.journal.specs.DidEvent.{event}
use Rattle.std.proofs.lemmas.Option.{slice_get-get_or}
use Rattle.std.proofs.lemmas.Grind.{elements}
use Rattle.journal.proofs.Order.EventPlacesAndCounts.{event_place_same, event_place_inside}
use Rattle.causes.specs.Heard.{IsHeard}
use Rattle.causes.proofs.apart.race_accesses_apart.Goals as goal

pub returns : goal.returns
returns c =
    let events = c.args.events.now in
    let first = c.args.race.0 in
    let race = c.requires.race in
    let here = slice_index_or events first (event 0 (Load 0 0)) in
    let within = event_place_inside events first race.first race.first_at in
    let there = slice_get-get_or events first (event 0 (Load 0 0)) within in
    record {
      first = refl;
      second = refl;
      heard = λ e at.
          let same = event_place_same events first here e there at in
          subst (λ (x : Event). IsHeard events x.processor c.args.race.1 c.in_ok-heard.heard) same c.in_ok-heard.ensures;
      first_locks = c.in_ok-first_locks.ensures;
      second_locks = c.in_ok-second_locks.ensures;
    }

pub offset_bounds-events-first : goal.offset_bounds-events-first
offset_bounds-events-first c = grind (arith, elements)

pub bounds-events-first : goal.bounds-events-first
bounds-events-first c = grind (arith, elements)

pub heard-requires-clause-by : goal.heard-requires-clause-by
heard-requires-clause-by c = grind (arith, elements)

pub heard-requires-clause-second : goal.heard-requires-clause-second
heard-requires-clause-second c = grind (arith, elements)

pub locks_of_holder_at-requires : goal.locks_of_holder_at-requires
locks_of_holder_at-requires c = grind (arith, elements)

pub locks_of_holder_at-requires-2 : goal.locks_of_holder_at-requires-2
locks_of_holder_at-requires-2 c = grind (arith, elements)
