use Rattle.std.proofs.Common.{◌≡◌, ◌+◌, ◌<◌, ℕ, List, length, slice_index_or, subst, sym, refl, arith}
use Rattle.std.proofs.lemmas.Option.{slice_get-get_or, slice_get_within}
use Rattle.journal.specs.declared.event.Event.{Event}
use Rattle.journal.specs.declared.event.Kind.TheVariants.{Load}
use Rattle.journal.specs.DidEvent.{event}
use Rattle.journal.specs.Events.{event_closes}
use Rattle.journal.specs.EventsInRange.{EventProcessorsInRange}
use Rattle.journal.proofs.Passes.ClockZeros.{clock_zeros_at}
use Rattle.judge.specs.JudgedSizes.{most_judged_processors}
use Rattle.causes.proofs.EdgeLeadsOn.{edge_leads_count_within, edge_leads_counts_next, edge_leads_one_or_none}
use Rattle.causes.proofs.TakingRows.{AreTakingRowNumbersBelow, taking_row_numbers_next}
use Rattle.causes.proofs.taking_events.taking_event_numbers.Goals as goal

-- the event at this place
abbrev here : List Event → ℕ → Event
here events place = slice_index_or events place (event 0 (Load 0 0))

-- its processor is one of sixty-four
low : (events : List Event) (place : ℕ) → place < length events → EventProcessorsInRange most_judged_processors events
    → (here events place).processor < most_judged_processors
low events place lt range = range place (here events place) (slice_get-get_or events place (event 0 (Load 0 0)) lt)

pub loop-place-init : goal.loop-place-init
loop-place-init c = record {
  closed = record { long = refl; each = λ q lt. clock_zeros_at most_judged_processors q };
  long = c.in_ok-numbers.ensures.len;
  numbers = λ k e lt at. absurd (omega arith);
}

pub offset_bounds-closed-event : goal.offset_bounds-closed-event
offset_bounds-closed-event c =
    let is = low c.args.events.now c.loop-place.place c.loop-place-test.true c.requires.processors in
    omega arith

pub bounds-closed-event : goal.bounds-closed-event
bounds-closed-event c = low c.args.events.now c.loop-place.place c.loop-place-test.true c.requires.processors

pub overflow_add-closed : goal.overflow_add-closed
overflow_add-closed c =
    let events = c.args.events.now in
    let place = c.loop-place.place in
    let p = (here events place).processor in
    let lt = c.loop-place-test.true in
    let few = c.requires.few in
    let is = low events place lt c.requires.processors in
    let count = c.loop-place.invariant.closed.each p is in
    let most = edge_leads_count_within event_closes events place p (omega arith) in
    let one = c.taking_event_closings.ensures in
    let bit = edge_leads_one_or_none (event_closes (here events place).kind) in
    omega arith

pub offset_bounds-closed-event-in-loop-place : goal.offset_bounds-closed-event-in-loop-place
offset_bounds-closed-event-in-loop-place c =
    let is = low c.args.events.now c.loop-place.place c.loop-place-test.true c.requires.processors in
    omega arith

pub bounds-closed-event-in-loop-place : goal.bounds-closed-event-in-loop-place
bounds-closed-event-in-loop-place c = low c.args.events.now c.loop-place.place c.loop-place-test.true c.requires.processors

pub loop-place-preserved : goal.loop-place-preserved
loop-place-preserved c =
    let events = c.args.events.now in
    let place = c.loop-place.place in
    let e : Event = slice_index_or events place (event 0 (Load 0 0)) in
    let lt = c.loop-place-test.true in
    let old = c.loop-place.invariant in
    let at = slice_get-get_or events place (event 0 (Load 0 0)) lt in
    let low = c.requires.processors place e at in
    let one = c.taking_event_closings.ensures in
    let numbers = c.loop-place.numbers in
    let long : length numbers.items ≡ place = omega (arith, numbers.ok.0, old.long) in
    record {
      closed = edge_leads_counts_next e _ at old.closed (omega arith);
      long = (let len = c.in_ok-push.ensures.len in let was = old.long in omega arith);
      numbers =
          subst (AreTakingRowNumbersBelow events (place + 1)) (sym c.in_ok-push.ensures.items)
          (taking_row_numbers_next events place _ e numbers.items long at (old.closed.each e.processor low) old.numbers);
    }

pub returns : goal.returns
returns c =
    let over = c.loop-place-test.false in
    let top = c.loop-place.auto.place-end in
    let old = c.loop-place.invariant in
    record {
      long = omega (arith, c.loop-place.numbers.ok.0, old.long);
      each = λ k e at.
          (let lt = slice_get_within c.args.events.now k e at in
          old.numbers k e (omega arith) at);
    }
