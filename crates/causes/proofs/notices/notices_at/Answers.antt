use Rattle.std.proofs.Common.{◌+◌, ◌*◌, ℕ, List, [], slice_index, slice_index_or, take, subst, sym, ◌∙◌, arith}
use Rattle.std.specs.Prelude.{Result, Ok, Err, IfOk, OnOk}
use Rattle.std.specs.Global.{Vec}
use Rattle.std.proofs.lemmas.Option.{slice_get-get_or}
use Rattle.std.proofs.lemmas.Grind.{elements}
use Rattle.journal.specs.declared.event.Event.{Event}
use Rattle.journal.specs.declared.event.Kind.TheVariants.{Load}
use Rattle.journal.specs.DidEvent.{event}
use Rattle.journal.specs.Events.{EventAt}
use Rattle.journal.specs.EventsInRange.{EventProcessorsInRange}
use Rattle.journal.specs.Times.{IsTimeOf}
use Rattle.journal.specs.WellFormed.{WellFormedKindInRange}
use Rattle.journal.proofs.Order.EventPlacesAndCounts.{event_place_same}
use Rattle.judge.specs.declared.gaps.Gaps.{Gaps}
use Rattle.judge.specs.declared.sizes.Sizes.{Sizes as Given}
use Rattle.judge.specs.FetchGaps.{TellsFetchGaps}
use Rattle.judge.specs.Miscounted.{IsEventInSizes}
use Rattle.judge.specs.JudgedSizes.{judged_sizes_of}
use Rattle.causes.specs.declared.notices.WriteNotice.{WriteNotice}
use Rattle.causes.specs.Notices.{AreNoticesAt, NoticesBelow}
use Rattle.causes.proofs.NoticeRows.{notice_rows_all_below, notice_rows_in_fetch, notice_rows_in_taken, notice_rows_quiet_event}
use Rattle.causes.proofs.DueSpans.{IsDueSpanOfFetch, HasNoDueSpanAt, IsDueSpanOfTaking, due_span_if_ok, due_span_none_told, due_span_pages_within}
use Rattle.causes.proofs.notices.notices_at.Goals as goal

-- the event at this place
abbrev here : List Event → ℕ → Event
here events place = slice_index_or events place (event 0 (Load 0 0))

-- a history that is told has at most sixteen processors
low : (j : List Event) (g : Gaps) → TellsFetchGaps j g → EventProcessorsInRange 16 j
low j g tells i e at =
    let lt = tells.processors i e at in let few = tells.long.sizes.processors in omega arith

-- what holds anyway holds of a result
on_ok : {A E P : Type 0} (r : Result A E) → P → OnOk r P
on_ok (Ok x) p = p
on_ok (Err e) p = tt

pub span_of_fetch-requires-clause-reader : goal.span_of_fetch-requires-clause-reader
span_of_fetch-requires-clause-reader c =
    let events = c.args.events.now in
    let k = c.args.place in
    let there = slice_get-get_or events k (event 0 (Load 0 0)) c.requires.place in
    let lt = (c.requires.within k (here events k) there).processor in
    let few = c.requires.so_far.long.sizes.processors in
    omega arith

pub span_of_fetch-requires-clause-page : goal.span_of_fetch-requires-clause-page
span_of_fetch-requires-clause-page c =
    let events = c.args.events.now in
    let k = c.args.place in
    let there = slice_get-get_or events k (event 0 (Load 0 0)) c.requires.place in
    subst (WellFormedKindInRange (judged_sizes_of c.args.gaps.now.sizes)) c.in-Fetch.is (c.requires.within k (here events k) there).kind

pub returns-in-Fetch-clause-notices : goal.returns-in-Fetch-clause-notices
returns-in-Fetch-clause-notices c = λ e at.
    let g = c.args.gaps.now in
    let s = judged_sizes_of g.sizes in
    let events = c.args.events.now in
    let k = c.args.place in
    let own = here events k in
    let there = slice_get-get_or events k (event 0 (Load 0 0)) c.requires.place in
    let fetch = c.in-Fetch in
    let span = c.span_of_fetch.result in
    let is = c.span_of_fetch.ensures in
    let notices = c.in_ok-notices.notices.items in
    let tells = c.requires.so_far in
    let is_span : IsDueSpanOfFetch s (take k events) own.processor fetch.page span = record {
      reader = is.reader;
      first = is.first;
      end = is.end;
      from = is.from (take k events) tells;
      to = is.to (take k events) tells;
    } in
    let same = notice_rows_in_fetch events k own fetch.is is_span (low (take k events) g tells) in
    subst (λ (f : Event). AreNoticesAt s events k f notices) (event_place_same events k own e there at)
    (notice_rows_all_below s events (take k events) k own span notices same (c.in_ok-notices.ensures (take k events) tells))

pub time-requires : goal.time-requires
time-requires c =
    let events = c.args.events.now in
    let k = c.args.place in
    let there = slice_get-get_or events k (event 0 (Load 0 0)) c.requires.place in
    let lt = (c.requires.within k (here events k) there).processor in
    let few = c.requires.so_far.long.sizes.processors in
    record { tells = (take k events, c.requires.so_far); processor = omega arith }

pub span_of_taking-requires : goal.span_of_taking-requires
span_of_taking-requires c =
    let events = c.args.events.now in
    let k = c.args.place in
    let there = slice_get-get_or events k (event 0 (Load 0 0)) c.requires.place in
    let lt = (c.requires.within k (here events k) there).processor in
    let few = c.requires.so_far.long.sizes.processors in
    record { tells = (take (k + 1) events, c.in_ok-note-2.ensures.tells); reader = omega arith }

pub returns-then-is_taking_event : goal.returns-then-is_taking_event
returns-then-is_taking_event c =
    let events = c.args.events.now in
    let k = c.args.place in
    let g = c.note-2.new.self in
    let s = judged_sizes_of g.sizes in
    let own = here events k in
    let there = slice_get-get_or events k (event 0 (Load 0 0)) c.requires.place in
    let span = c.span_of_taking.result in
    let is = c.span_of_taking.ensures in
    let h = take (k + 1) events in
    let tells = c.in_ok-note-2.ensures.tells in
    let before : IsTimeOf (take k events) own.processor (slice_index span.from) =
    subst (λ t. IsTimeOf (take k events) own.processor (slice_index t)) (sym is.from)
    (c.time.ensures (take k events) c.requires.so_far) in
    let within = λ (n : ℕ) (f : Event) (at : EventAt events n f).
    subst (λ (x : Given). IsEventInSizes (judged_sizes_of x) f) (sym c.note-2.ensures.sizes) (c.requires.within n f at) in
    let round : IsDueSpanOfTaking s events k own span = record {
      takes = record {
        at = there;
        takes = sym c.is_taking_event.ensures ∙ c.if-is_taking_event.true;
        before = before;
        after = is.to h tells;
      };
      reader = is.reader;
      first = is.first;
      end = is.end;
      low = low h g tells;
      pages = due_span_pages_within s events (k + 1) within;
    } in
    let same = notice_rows_in_taken round in
    record {
      sizes = c.note-2.ensures.sizes;
      tells = on_ok c.notices_in-then-is_taking_event.result tells;
      notices =
          subst
          (λ (x : Given). IfOk c.notices_in-then-is_taking_event.result
          (λ (v : Vec WriteNotice). (e : Event) → EventAt events k e → AreNoticesAt (judged_sizes_of x) events k e v.items))
          c.note-2.ensures.sizes
          (due_span_if_ok c.notices_in-then-is_taking_event.result
          (λ (v : Vec WriteNotice). (j : List Event) → TellsFetchGaps j g → NoticesBelow s j span (span.end * 16) 0 v.items)
          (λ (v : Vec WriteNotice). (e : Event) → EventAt events k e → AreNoticesAt s events k e v.items)
          (λ v are e at. subst (λ (f : Event). AreNoticesAt s events k f v.items)
          (event_place_same events k own e there at)
          (notice_rows_all_below s events h k own span v.items same (are h tells))) c.notices_in-then-is_taking_event.ensures);
    }

pub returns-else-is_taking_event : goal.returns-else-is_taking_event
returns-else-is_taking_event c =
    let events = c.args.events.now in
    let k = c.args.place in
    let s = judged_sizes_of c.args.gaps.now.sizes in
    let own = here events k in
    let there = slice_get-get_or events k (event 0 (Load 0 0)) c.requires.place in
    let quiet : HasNoDueSpanAt events k own =
    record { at = there; takes = sym c.is_taking_event.ensures ∙ c.if-is_taking_event.false; fetches = c.in_default.not-Fetch } in
    record {
      sizes = c.note-2.ensures.sizes;
      tells = c.in_ok-note-2.ensures.tells;
      notices = λ e at.
          subst (AreNoticesAt s events k e) (sym c.new.ensures.items)
          (subst (λ (f : Event). AreNoticesAt s events k f []) (event_place_same events k own e there at)
          (notice_rows_quiet_event s events k own (due_span_none_told s quiet)));
    }

pub notices_in-requires-clause-pages : goal.notices_in-requires-clause-pages
notices_in-requires-clause-pages c = grind (arith, elements)
