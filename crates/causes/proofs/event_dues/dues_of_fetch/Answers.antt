use Rattle.std.proofs.Common.{ℕ, ◌*◌, List, slice_index_or, take, subst, arith}
use Rattle.std.specs.Global.{Vec}
use Rattle.std.proofs.lemmas.List.{length-take-le}
use Rattle.std.proofs.lemmas.Option.{slice_get-get_or}
use Rattle.journal.specs.declared.event.Event.{Event}
use Rattle.journal.specs.declared.event.Kind.TheVariants.{Load}
use Rattle.journal.specs.DidEvent.{event}
use Rattle.journal.specs.Events.{EventAt}
use Rattle.journal.specs.EventsInRange.{EventProcessorsInRange}
use Rattle.journal.proofs.Order.EventPlacesAndCounts.{event_place_same}
use Rattle.judge.specs.FetchGaps.{TellsFetchGaps}
use Rattle.judge.specs.JudgedSizes.{judged_sizes_of}
use Rattle.causes.specs.declared.event_dues.Due.{Due}
use Rattle.causes.specs.Dues.{DuesBelow, AreDues}
use Rattle.causes.proofs.DueSpans.{IsDueSpanOfFetch, due_span_all_below, due_span_if_ok, due_span_in_fetch}
use Rattle.causes.proofs.event_dues.dues_of_fetch.Goals as goal

-- the event at this place
abbrev here : List Event → ℕ → Event
here events place = slice_index_or events place (event 0 (Load 0 0))

pub span_of_fetch-span-requires-clause-reader : goal.span_of_fetch-span-requires-clause-reader
span_of_fetch-span-requires-clause-reader c =
    let events = c.args.events.now in
    let k = c.args.place in
    c.requires.processor (here events k) (slice_get-get_or events k (event 0 (Load 0 0)) c.requires.place)

pub dues_in-requires-clause-tells : goal.dues_in-requires-clause-tells
dues_in-requires-clause-tells c =
    let lt = c.requires.place in
    let few = c.requires.few in
    let long = length-take-le c.args.place c.args.events.now (omega arith) in
    (take c.args.place c.args.events.now, c.requires.tells, omega arith)

pub returns : goal.returns
returns c =
    let g = c.args.gaps.now in
    let s = judged_sizes_of g.sizes in
    let events = c.args.events.now in
    let k = c.args.place in
    let h = take k events in
    let own : Event = here events k in
    let there = slice_get-get_or events k (event 0 (Load 0 0)) c.requires.place in
    let span = c.span_of_fetch-span.result in
    let is = c.span_of_fetch-span.ensures in
    let low : EventProcessorsInRange 16 h =
    λ i f at. (let lt = c.requires.tells.processors i f at in
    let small = c.requires.tells.long.sizes.processors in
    omega arith) in
    let kind = c.requires.fetch own there in
    let is_span : IsDueSpanOfFetch s h own.processor c.args.page span = record {
      reader = is.reader;
      first = is.first;
      end = is.end;
      from = is.from h c.requires.tells;
      to = is.to h c.requires.tells;
    } in
    let same = due_span_in_fetch events k own kind.3 is_span low in
    due_span_if_ok c.dues_in.result
    (λ (v : Vec Due). (j : List Event) → TellsFetchGaps j g → DuesBelow s j span (span.end * 16) v.items)
    (λ (v : Vec Due). (e : Event) → EventAt events k e → AreDues s events k e v.items)
    (λ v are e at. subst (λ (f : Event). AreDues s events k f v.items) (event_place_same events k own e there at)
    (due_span_all_below s events h k own span v.items same (are h c.requires.tells))) c.dues_in.ensures
