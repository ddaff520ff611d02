use Rattle.std.proofs.Common.{◌+◌, ◌*◌, List, slice_index, slice_index_or, take, subst, sym, arith}
use Rattle.std.specs.Global.{Vec}
use Rattle.std.proofs.lemmas.Option.{slice_get-get_or}
use Rattle.journal.specs.declared.event.Event.{Event}
use Rattle.journal.specs.declared.event.Kind.TheVariants.{Load}
use Rattle.journal.specs.DidEvent.{event}
use Rattle.journal.specs.Events.{EventAt}
use Rattle.journal.specs.Times.{IsTimeOf}
use Rattle.journal.specs.EventsInRange.{EventProcessorsInRange}
use Rattle.journal.proofs.Order.EventPlacesAndCounts.{event_place_same}
use Rattle.judge.specs.FetchGaps.{TellsFetchGaps}
use Rattle.judge.specs.JudgedSizes.{judged_sizes_of}
use Rattle.causes.specs.declared.event_dues.Due.{Due}
use Rattle.causes.specs.Dues.{DuesBelow, AreDues}
use Rattle.causes.proofs.DueSpans.{IsDueSpanOfTaking, due_span_all_below, due_span_if_ok, due_span_in_taken, due_span_pages_within}
use Rattle.causes.proofs.event_dues.dues_of_taking.Goals as goal

pub returns : goal.returns
returns c =
    let g = c.args.gaps.now in
    let s = judged_sizes_of g.sizes in
    let events = c.args.events.now in
    let k = c.args.place in
    let h = take (k + 1) events in
    let here : Event = slice_index_or events k (event 0 (Load 0 0)) in
    let there = slice_get-get_or events k (event 0 (Load 0 0)) c.requires.place in
    let span = c.span_of_taking-span.result in
    let is = c.span_of_taking-span.ensures in
    let low : EventProcessorsInRange 16 h =
    λ i f at. (let lt = c.requires.tells.processors i f at in
    let small = c.requires.tells.long.sizes.processors in
    omega arith) in
    let round : IsDueSpanOfTaking s events k here span = record {
      takes = record {
        at = there;
        takes = c.requires.takes here there;
        before =
            subst (λ t. IsTimeOf (take k events) here.processor (slice_index t)) (sym is.from)
            (c.requires.before here there);
        after = is.to h c.requires.tells;
      };
      reader = is.reader;
      first = is.first;
      end = is.end;
      low = low;
      pages = due_span_pages_within s events (k + 1) c.requires.within;
    } in
    let same = due_span_in_taken round in
    due_span_if_ok c.dues_in.result
    (λ (v : Vec Due). (j : List Event) → TellsFetchGaps j g → DuesBelow s j span (span.end * 16) v.items)
    (λ (v : Vec Due). (e : Event) → EventAt events k e → AreDues s events k e v.items)
    (λ v are e at. subst (λ (f : Event). AreDues s events k f v.items) (event_place_same events k here e there at)
    (due_span_all_below s events h k here span v.items same (are h c.requires.tells))) c.dues_in.ensures
