use Rattle.std.proofs.Common.{◌∙◌, ℕ, List, slice_index_or, subst, sym, take, arith}
use Rattle.std.proofs.lemmas.List.{length-take-le}
use Rattle.std.proofs.lemmas.Option.{slice_get-get_or}
use Rattle.base.proofs.SlicesAndCounts.{slice_get-from_take}
use Rattle.journal.specs.declared.event.Event.{Event}
use Rattle.journal.specs.declared.event.Kind.TheVariants.{Load}
use Rattle.journal.specs.DidEvent.{event}
use Rattle.journal.specs.EventsInRange.{EventProcessorsInRange}
use Rattle.journal.proofs.Passes.NextClocks.{next_clocks_front}
use Rattle.judge.specs.Cuts.{AreCuts}
use Rattle.lrc_explain.proofs.earlier.collect_earlier_stores.Goals as goal

-- the event at this place
abbrev here : List Event → ℕ → Event
here events place = slice_index_or events place (event 0 (Load 0 0))

pub earlier_at-requires-clause-processor : goal.earlier_at-requires-clause-processor
earlier_at-requires-clause-processor c =
    let events = c.args.events.now in
    let place = c.loop-place.place in
    let test = c.loop-place-test.true in
    let top = c.loop-place.auto.place-end in
    let at = slice_get-get_or events place (event 0 (Load 0 0)) (omega arith) in
    let lt = c.requires.processors place (here events place) at in
    let same = c.loop-place.invariant.present in
    omega arith

pub note-requires-clause-processor : goal.note-requires-clause-processor
note-requires-clause-processor c =
    let events = c.args.events.now in
    let place = c.loop-place.place in
    let test = c.loop-place-test.true in
    let top = c.loop-place.auto.place-end in
    let at = slice_get-get_or events place (event 0 (Load 0 0)) (omega arith) in
    let lt = c.requires.processors place (here events place) at in
    let same = c.loop-place.invariant.present in
    omega arith

pub note-requires-clause-few : goal.note-requires-clause-few
note-requires-clause-few c =
    let events = c.args.events.now in
    let place = c.loop-place.place in
    let test = c.loop-place-test.true in
    let top = c.loop-place.auto.place-end in
    let few = c.requires.few in
    let long = length-take-le place events (omega arith) in
    let at = c.loop-place.invariant.tells.place in
    omega arith

pub loop-place-preserved : goal.loop-place-preserved
loop-place-preserved c =
    let events = c.args.events.now in
    let place = c.loop-place.place in
    let old = c.loop-place.invariant in
    let test = c.loop-place-test.true in
    let top = c.loop-place.auto.place-end in
    let at = slice_get-get_or events place (event 0 (Load 0 0)) (omega arith) in
    let range : EventProcessorsInRange c.loop-place.cuts.present (take place events) =
    λ i e to. (let lt = c.requires.processors i e (slice_get-from_take events place i e to) in let same = old.present in omega arith) in
    record {
      tells = subst (λ (j : List Event). AreCuts j c.note.new.self) (sym (next_clocks_front events place (here events place) at))
          (c.in_ok-note.ensures.cuts (take place events) old.tells range);
      present = c.note.ensures.present ∙ old.present;
    }
