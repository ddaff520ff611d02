use Rattle.std.proofs.Common.{◌≡◌, ◌+◌, length, slice_index, slice_index_or, subst, sym, take, ◌∙◌, arith}
use Rattle.std.proofs.lemmas.Option.{slice_get-get_or}
use Rattle.journal.specs.declared.event.Kind.TheVariants.{Load}
use Rattle.journal.specs.ClockEntry.{entry}
use Rattle.journal.specs.DidEvent.{event}
use Rattle.journal.specs.EventsInRange.{EventProcessorsInRange}
use Rattle.journal.specs.Pasts.{InPast}
use Rattle.journal.specs.Times.{IsTimeOf}
use Rattle.lrc_picture.specs.Timestamps.{ArePictureTimestampsAfter}
use Rattle.lrc_picture.proofs.DrawnTimestamps.{drawn_timestamps_next, drawn_timestamps_same}
use Rattle.lrc_picture.proofs.times.picture_times.Goals as goal

pub note-requires-clause-processors : goal.note-requires-clause-processors
note-requires-clause-processors c =
    subst (λ n. EventProcessorsInRange n c.events-events.result.now) (sym c.loop-place.invariant.present) c.events-events.ensures.processors

pub of-requires : goal.of-requires
of-requires c =
    let events = c.events-events.result.now in
    let place = c.loop-place.place in
    let e = slice_index_or events place (event 0 (Load 0 0)) in
    let at = slice_get-get_or events place (event 0 (Load 0 0)) c.loop-place-test.true in
    let low = c.events-events.ensures.processors place e at in
    let few = c.requires in
    let long = c.in_ok-note.ensures.clocks.long in
    omega arith

pub loop-place-preserved : goal.loop-place-preserved
loop-place-preserved c =
    let events = c.events-events.result.now in
    let place = c.loop-place.place in
    let old = c.loop-place.invariant in
    let times = c.loop-place.times in
    let e = slice_index_or events place (event 0 (Load 0 0)) in
    let at = slice_get-get_or events place (event 0 (Load 0 0)) c.loop-place-test.true in
    let long : length times.items ≡ place = omega (arith, times.ok.0, old.long) in
    let low = c.events-events.ensures.processors place e at in
    let few = c.requires in
    let clocks = c.in_ok-note.ensures.clocks in
    let time : IsTimeOf (take (place + 1) events) e.processor (slice_index c.of.result.now) =
    drawn_timestamps_same (take (place + 1) events) (InPast (take (place + 1) events) e.processor)
    (entry c.note.new.self.processors.items e.processor) (slice_index c.of.result.now) c.of.ensures
    (clocks.times e.processor (omega arith)) in
    record {
      clocks = clocks;
      present = c.in_ok-note.ensures.present ∙ old.present;
      long = (let len = c.in_ok-push.ensures.len in let was = old.long in omega arith);
      times = subst (ArePictureTimestampsAfter events) (sym c.in_ok-push.ensures.items)
          (drawn_timestamps_next events times.items place c.of.result.now e long old.times at time);
    }

pub returns-clause-times : goal.returns-clause-times
returns-clause-times c =
    subst (λ j. ArePictureTimestampsAfter j c.loop-place.times.items) c.events-events.ensures.value c.loop-place.invariant.times
