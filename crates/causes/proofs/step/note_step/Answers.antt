use Rattle.std.proofs.Common.{List, slice_index_or, subst, sym, take, arith}
use Rattle.std.proofs.lemmas.List.{length-take-le}
use Rattle.std.proofs.lemmas.Option.{slice_get-get_or}
use Rattle.base.proofs.SlicesAndCounts.{slice_get-from_take}
use Rattle.journal.specs.declared.event.Event.{Event}
use Rattle.journal.specs.declared.event.Kind.TheVariants.{Load}
use Rattle.journal.specs.DidEvent.{event}
use Rattle.journal.specs.EventsInRange.{EventProcessorsInRange}
use Rattle.journal.proofs.Passes.NextClocks.{next_clocks_front}
use Rattle.judge.specs.Cuts.{AreCuts}
use Rattle.causes.proofs.step.note_step.Goals as goal

pub note-requires-clause-few : goal.note-requires-clause-few
note-requires-clause-few c =
    let lt = c.requires.place in
    let few = c.requires.few in
    let long = length-take-le c.args.place c.args.events.now (omega arith) in
    let at = c.requires.so_far.place in
    omega arith

pub note-requires-clause-processor : goal.note-requires-clause-processor
note-requires-clause-processor c =
    let events = c.args.events.now in
    let place = c.args.place in
    c.requires.processors place (slice_index_or events place (event 0 (Load 0 0)))
    (slice_get-get_or events place (event 0 (Load 0 0)) c.requires.place)

pub returns-clause-cuts : goal.returns-clause-cuts
returns-clause-cuts c =
    let events = c.args.events.now in
    let place = c.args.place in
    let at = slice_get-get_or events place (event 0 (Load 0 0)) c.requires.place in
    let range : EventProcessorsInRange c.args.cuts.now.present (take place events) =
    λ i e to. c.requires.processors i e (slice_get-from_take events place i e to) in
    subst (λ (j : List Event). AreCuts j c.note.new.self)
    (sym (next_clocks_front events place (slice_index_or events place (event 0 (Load 0 0))) at))
    (c.in_ok-note.ensures.cuts (take place events) c.requires.so_far range)
