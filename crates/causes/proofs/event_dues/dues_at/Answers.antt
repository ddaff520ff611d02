use Rattle.std.proofs.Common.{◌≡◌, ℕ, List, [], slice_index, slice_index_or, take, subst, sym, ap, ◌∙◌, true, arith}
use Rattle.std.specs.Prelude.{Result, Ok, Err, IfOk, OnOk}
use Rattle.std.specs.Global.{Vec}
use Rattle.std.proofs.lemmas.Option.{slice_get-get_or}
use Rattle.journal.specs.declared.event.Event.{Event}
use Rattle.journal.specs.declared.event.Kind.TheVariants.{Load}
use Rattle.journal.specs.DidEvent.{event}
use Rattle.journal.specs.Events.{EventAt, event_takes}
use Rattle.journal.specs.Times.{IsTimeOf}
use Rattle.journal.specs.WellFormed.{WellFormedKindInRange}
use Rattle.journal.proofs.Order.EventPlacesAndCounts.{event_place_same}
use Rattle.judge.specs.declared.sizes.Sizes.{Sizes as Given}
use Rattle.judge.specs.Miscounted.{IsEventInSizes}
use Rattle.judge.specs.JudgedSizes.{judged_sizes_of}
use Rattle.causes.specs.declared.event_dues.Due.{Due}
use Rattle.causes.specs.Dues.{AreDues}
use Rattle.causes.proofs.DueSpans.{HasNoDueSpanAt, due_span_quiet}
use Rattle.causes.proofs.event_dues.dues_at.Goals as goal

-- the event at this place
abbrev here : List Event → ℕ → Event
here events place = slice_index_or events place (event 0 (Load 0 0))

-- what holds anyway holds of a result
on_ok : {A E P : Type 0} (r : Result A E) → P → OnOk r P
on_ok (Ok x) p = p
on_ok (Err e) p = tt

pub dues_of_fetch-requires-clause-tells : goal.dues_of_fetch-requires-clause-tells
dues_of_fetch-requires-clause-tells c = c.requires.so_far

pub dues_of_fetch-requires-clause-processor : goal.dues_of_fetch-requires-clause-processor
dues_of_fetch-requires-clause-processor c = λ e at.
    (let lt = (c.requires.within c.args.place e at).processor in
    let few = c.requires.so_far.long.sizes.processors in
    omega arith)

pub dues_of_fetch-requires-clause-fetch : goal.dues_of_fetch-requires-clause-fetch
dues_of_fetch-requires-clause-fetch c = λ e at.
    (let events = c.args.events.now in
    let k = c.args.place in
    let there = slice_get-get_or events k (event 0 (Load 0 0)) c.requires.place in
    let fetch = c.in-Fetch in (
      fetch.writers,
      fetch.records,
      fetch.words,
      sym (ap (λ (x : Event). x.kind) (event_place_same events k (here events k) e there at)) ∙ fetch.is,
    ))

pub dues_of_fetch-requires-clause-page : goal.dues_of_fetch-requires-clause-page
dues_of_fetch-requires-clause-page c =
    let events = c.args.events.now in
    let k = c.args.place in
    let there = slice_get-get_or events k (event 0 (Load 0 0)) c.requires.place in
    subst (WellFormedKindInRange (judged_sizes_of c.args.gaps.now.sizes)) c.in-Fetch.is (c.requires.within k (here events k) there).kind

pub note-requires : goal.note-requires
note-requires c = record {
  place = c.requires.place;
  few = c.requires.few;
  within = c.requires.within;
  so_far = c.requires.so_far;
}

pub returns-in-Fetch-clause-sizes : goal.returns-in-Fetch-clause-sizes
returns-in-Fetch-clause-sizes c = c.note.ensures.sizes

pub returns-in-Fetch-clause-tells : goal.returns-in-Fetch-clause-tells
returns-in-Fetch-clause-tells c = c.in_ok-note.ensures.tells

pub returns-in-Fetch-clause-dues : goal.returns-in-Fetch-clause-dues
returns-in-Fetch-clause-dues c = c.in_ok-dues.ensures

pub time-requires : goal.time-requires
time-requires c =
    let events = c.args.events.now in
    let k = c.args.place in
    let there = slice_get-get_or events k (event 0 (Load 0 0)) c.requires.place in
    let lt = (c.requires.within k (here events k) there).processor in
    let few = c.requires.so_far.long.sizes.processors in
    record { tells = (take k events, c.requires.so_far); processor = omega arith }

pub note-requires-2 : goal.note-requires-2
note-requires-2 c = record {
  place = c.requires.place;
  few = c.requires.few;
  within = c.requires.within;
  so_far = c.requires.so_far;
}

pub dues_of_taking-requires : goal.dues_of_taking-requires
dues_of_taking-requires c =
    let events = c.args.events.now in
    let k = c.args.place in
    let there = slice_get-get_or events k (event 0 (Load 0 0)) c.requires.place in
    record {
      few = c.requires.few;
      tells = c.in_ok-note-2.ensures.tells;
      place = c.requires.place;
      within = λ n e at.
          subst (λ (x : Given). IsEventInSizes (judged_sizes_of x) e) (sym c.note-2.ensures.sizes) (c.requires.within n e at);
      takes = λ e at.
          subst (λ (f : Event). event_takes f.kind ≡ true) (event_place_same events k (here events k) e there at)
          (sym c.is_taking_event.ensures ∙ c.if-is_taking_event.true);
      before = λ e at.
          subst (λ (f : Event). IsTimeOf (take k events) f.processor (slice_index c.time.result.now))
          (event_place_same events k (here events k) e there at) (c.time.ensures (take k events) c.requires.so_far);
    }

pub returns-then-is_taking_event : goal.returns-then-is_taking_event
returns-then-is_taking_event c =
    let events = c.args.events.now in
    let k = c.args.place in
    record {
      sizes = c.note-2.ensures.sizes;
      tells = on_ok c.dues_of_taking.result c.in_ok-note-2.ensures.tells;
      dues =
          subst
          (λ (x : Given). IfOk c.dues_of_taking.result
          (λ (v : Vec Due). (e : Event) → EventAt events k e → AreDues (judged_sizes_of x) events k e v.items))
          c.note-2.ensures.sizes c.dues_of_taking.ensures;
    }

pub returns-else-is_taking_event : goal.returns-else-is_taking_event
returns-else-is_taking_event c =
    let events = c.args.events.now in
    let k = c.args.place in
    let s = judged_sizes_of c.args.gaps.now.sizes in
    let there = slice_get-get_or events k (event 0 (Load 0 0)) c.requires.place in
    let quiet : HasNoDueSpanAt events k (here events k) =
    record { at = there; takes = sym c.is_taking_event.ensures ∙ c.if-is_taking_event.false; fetches = c.in_default.not-Fetch } in
    record {
      sizes = c.note-2.ensures.sizes;
      tells = c.in_ok-note-2.ensures.tells;
      dues = λ e at.
          subst (AreDues s events k e) (sym c.new.ensures.items)
          (subst (λ (f : Event). AreDues s events k f []) (event_place_same events k (here events k) e there at)
          (due_span_quiet s quiet));
    }
