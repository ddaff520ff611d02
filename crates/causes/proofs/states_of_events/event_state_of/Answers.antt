use Rattle.std.proofs.Common.{◌+◌, take, subst, arith}
use Rattle.std.proofs.lemmas.Option.{slice_get-get_or}
use Rattle.std.proofs.lemmas.Grind.{elements}
use Rattle.journal.specs.declared.event.Event.{Event}
use Rattle.journal.specs.declared.event.Kind.TheVariants.{Load}
use Rattle.journal.specs.DidEvent.{event}
use Rattle.journal.proofs.Order.EventPlacesAndCounts.{event_place_same}
use Rattle.judge.specs.JudgedSizes.{judged_sizes_of}
use Rattle.causes.specs.declared.states_of_events.EventState.{EventState}
use Rattle.causes.specs.EventStates.{IsEventState}
use Rattle.causes.proofs.RecordRows.{record_row_event, record_row_number_is}
use Rattle.causes.proofs.states_of_events.event_state_of.Goals as goal

pub returns : goal.returns
returns c = λ f there.
    let s = judged_sizes_of c.args.gaps.now.sizes in
    let j = c.args.events.now in
    let k = c.args.place in
    let h = take (k + 1) j in
    let e = record_row_event j k in
    let at = slice_get-get_or j k (event 0 (Load 0 0)) c.requires.place in
    let tells = c.requires.tells in
    let state : EventState = record {
      time = c.time.result.now;
      interval = c.index.result.now;
      records = c.in_ok-records.records;
      notices = c.args.notices;
      stale = c.in_ok-stale.stale;
      dirty = c.in_ok-dirty.dirty;
    } in
    subst (λ (g : Event). IsEventState s j k g state) (event_place_same j k e f at there) (record {
      time = c.time.ensures h tells;
      interval =
          record_row_number_is j c.args.index.now.numbers.items k c.index.result.now c.requires.place c.requires.index.numbers
          c.index.ensures;
      records = c.in_ok-records.ensures.closes e at;
      no_records = c.in_ok-records.ensures.others e at;
      notices = c.requires.notices e at;
      stale = c.in_ok-stale.ensures h tells;
      dirty = c.in_ok-dirty.ensures h tells;
    })

pub stale_pages-requires-clause-reader : goal.stale_pages-requires-clause-reader
stale_pages-requires-clause-reader c = grind (arith, elements)

pub dirty_pages-requires-clause-by : goal.dirty_pages-requires-clause-by
dirty_pages-requires-clause-by c = grind (arith, elements)

pub time-requires-clause-processor : goal.time-requires-clause-processor
time-requires-clause-processor c = grind (arith, elements)
