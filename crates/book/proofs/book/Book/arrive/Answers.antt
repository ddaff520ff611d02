use Rattle.std.proofs.Common.{◌≡◌, ℕ, ◌+◌, ◌<◌, map, length, replicate, Vec, Global, List, Option, None, Some, slice_get, slice_set, slice_index, ap, ◌∙◌, sym, subst, arith, rules}
use Rattle.std.proofs.lemmas.List.{length-set, length-map}
use Rattle.std.specs.Arc.{arc_value}
use Rattle.std.specs.Option.{option_map}
use Rattle.journal.specs.declared.event.Kind.TheVariants.{Arrive}
use Rattle.transit.specs.Letters.{Letter, letter}
use Rattle.transit.specs.declared.message.Message.{Message}
use Rattle.vtime.specs.TicksAndJoins.{tick}
use Rattle.book.specs.BookState.{BookState, book_state_time_of}
use Rattle.book.specs.Transitions.{transition_handed_in, transition_open_interval, transition_closed_by, transition_departures_to}
use Rattle.interval.specs.SentIntervals.{ClosedInterval}
use Rattle.interval.specs.KeptClosings.{kept_closings_pushed}
use Rattle.barrier.specs.declared.barrier.Stage.TheVariants.{Away}
use Rattle.book.specs.AllowedCalls.{AllowsNoticesOfCall}
use Rattle.book.specs.BookInvariant.{book_invariant_state}
use Rattle.book.specs.declared.book.Book.TheInside.{Inside}
use Rattle.book.proofs.Parts.HeldHistory.{held_history_happened_fits}
use Rattle.book.proofs.Calling.IdleCalls.{StandsForIdleCall, idle_call_stands, idle_call_still_open, idle_call_open_with_room, IsClosedByIdleCallWithRoom, idle_call_closed_with_room}
use Rattle.book.proofs.Calling.BarrierArrivals.{IsBarrierArrival, barrier_arrival_read, barrier_arrival_allowed, barrier_arrival_departures_made, barrier_arrival_finds_no_mail, barrier_arrival_met, barrier_arrival_alone}
use Rattle.book.proofs.book.Book.arrive.Goals.{After-parts, After-closing_time-time, In_ok-departures, After-parts-2, in-Some, in_default}
use Rattle.book.proofs.book.Book.arrive.Goals as goal

-- the parts hold the book as it is found
same : (c : After-parts) → book_invariant_state c.parts.inside ≡ c.args.self.now
same c = c.parts.view_is ∙ c.deref_mut-parts.ensures.value ∙ c.self.view_is

pub open_interval-interval-requires : goal.open_interval-interval-requires
open_interval-interval-requires c =
    idle_call_open_with_room c.parts.inside _ _ _ c.args.processor c.in_ok-make_journal_room.ensures.same
    (same (goal.at.open_interval-interval-requires c).After-parts) c.requires.call

pub close-requires-clause-open : goal.close-requires-clause-open
close-requires-clause-open c =
    idle_call_still_open (book_invariant_state c.parts.inside) c.args.processor c.open_interval-interval.result (map arc_value c.args.records.items)
    c.open_interval-interval.ensures

pub closing_time-time-requires-clause-open : goal.closing_time-time-requires-clause-open
closing_time-time-requires-clause-open c =
    idle_call_open_with_room c.parts.inside _ _ _ c.args.processor c.in_ok-make_journal_room.ensures.same
    (same (goal.at.closing_time-time-requires-clause-open c).After-parts) c.requires.call

pub closing_time-time-requires-clause-fits : goal.closing_time-time-requires-clause-fits
closing_time-time-requires-clause-fits c =
    let few = (idle_call_stands (book_invariant_state c.parts.inside)
    c.args.self.now c.args.processor c.args.block.now (same (goal.at.closing_time-time-requires-clause-fits c).After-parts)
    c.requires.call).few in
    let all = held_history_happened_fits c.parts.inside.journal c.parts.inside.owing c.parts.invariant.few in
    omega arith

-- what the arrival rests on, whose interval is p's
rests : (c : After-closing_time-time)
    → StandsForIdleCall (book_invariant_state c.parts.inside) c.args.processor × IsBarrierArrival (book_invariant_state c.parts.inside) c.args.processor
    × (c.args.processor ≡ c.open_interval-interval.result.owner)
rests c = (
  idle_call_stands (book_invariant_state c.parts.inside) c.args.self.now c.args.processor c.args.block.now
      (c.parts.view_is ∙ c.deref_mut-parts.ensures.value ∙ c.self.view_is) c.requires.call,
  barrier_arrival_read (book_invariant_state c.parts.inside) c.args.self.now c.args.processor c.args.block.now
      (c.parts.view_is ∙ c.deref_mut-parts.ensures.value ∙ c.self.view_is) c.requires.call,
  sym (ap (λ (i : ClosedInterval). i.owner) c.open_interval-interval.ensures),
)

-- the timestamp after the arrival
ticked : (c : After-closing_time-time)
    → c.closing_time-time.result ≡ tick (book_state_time_of (book_invariant_state c.parts.inside) c.args.processor) c.args.processor
ticked c = c.closing_time-time.ensures

-- there are as many stages as it has entries
long : (c : After-closing_time-time) → length c.closing_time-time.result ≡ length c.parts.inside.barrier.stages
long c =
    ap (λ (t : List ℕ). length t) (ticked c)
    ∙ length-set (book_state_time_of (book_invariant_state c.parts.inside) c.args.processor) c.args.processor
    (slice_index (book_state_time_of (book_invariant_state c.parts.inside) c.args.processor) c.args.processor + 1) ∙ (rests c).1.own_long
    ∙ sym (rests c).1.stages

pub departures_with-requires-clause-owner : goal.departures_with-requires-clause-owner
departures_with-requires-clause-owner c =
    let w = rests (goal.at.departures_with-requires-clause-owner c).After-closing_time-time in
    subst (λ q. q < length c.parts.inside.closed.next) w.2 w.0.next

pub departures_with-requires-clause-processor : goal.departures_with-requires-clause-processor
departures_with-requires-clause-processor c =
    let w = rests (goal.at.departures_with-requires-clause-processor c).After-closing_time-time in
    subst (λ q. q < length c.parts.inside.times.items) w.2 w.0.times

pub departures_with-requires-clause-away : goal.departures_with-requires-clause-away
departures_with-requires-clause-away c =
    let w = rests (goal.at.departures_with-requires-clause-away c).After-closing_time-time in
    subst (λ q. slice_get c.parts.inside.barrier.stages q ≡ Some Away) w.2 w.1.away

pub departures_with-requires-clause-own_long : goal.departures_with-requires-clause-own_long
departures_with-requires-clause-own_long c =
    long (goal.at.departures_with-requires-clause-own_long c).After-closing_time-time

pub departures_with-requires-clause-all : goal.departures_with-requires-clause-all
departures_with-requires-clause-all c =
    let at = (goal.at.departures_with-requires-clause-all c).After-closing_time-time in
    let w = rests at in
    subst (λ q. (r : ℕ) → r < length c.parts.inside.times.items
    → AllowsNoticesOfCall c.parts.inside.closed (slice_set c.parts.inside.times.items q c.closing_time-time.result) r) w.2
    (subst (λ (t : List ℕ). (r : ℕ) → r < length c.parts.inside.times.items
    → AllowsNoticesOfCall c.parts.inside.closed (slice_set c.parts.inside.times.items c.args.processor t) r) (sym (ticked at)) w.1.sent)

-- the book once the interval is closed
closed : (c : After-parts-2) → book_invariant_state c.parts-2.inside
    ≡ transition_closed_by (transition_handed_in c.args.self.now c.args.block.now) c.args.processor Arrive (map arc_value c.args.records.items)
closed c =
    let is : IsClosedByIdleCallWithRoom c.parts.inside c.args.self.now (book_invariant_state c.parts-2.inside) c.args.block.now c.args.processor
    Arrive (map arc_value c.args.records.items) = record {
      log = c.make_journal_room.new.journal;
      i = c.open_interval-interval.result;
      made = c.in_ok-make_journal_room.ensures.same;
      same = c.parts.view_is ∙ c.deref_mut-parts.ensures.value ∙ c.self.view_is;
      opened = c.open_interval-interval.ensures;
      closed = c.parts-2.view_is ∙ c.in_ok-close.ensures.ok;
    } in
    idle_call_closed_with_room is

pub arrive-requires-clause-away : goal.arrive-requires-clause-away
arrive-requires-clause-away c =
    ap (λ (b : BookState). slice_get b.barrier.stages c.args.processor)
    (closed (goal.at.arrive-requires-clause-away c).After-parts-2)
    ∙ (barrier_arrival_allowed c.args.self.now c.args.processor c.args.block.now c.requires.call).away

pub arrive-requires-clause-long : goal.arrive-requires-clause-long
arrive-requires-clause-long c =
    long (goal.at.arrive-requires-clause-long c).After-closing_time-time
    ∙ ap (λ (b : BookState). length b.barrier.stages) (same (goal.at.arrive-requires-clause-long c).After-parts)
    ∙ sym (ap (λ (b : BookState). length b.barrier.stages) (closed (goal.at.arrive-requires-clause-long c).After-parts-2))

-- the departures as letters
abbrev letters : Option (Vec Message Global) → Option (List Letter)
letters o = option_map (λ (ms : Vec Message Global). map letter ms.items) o

-- the timestamp and the departures, read off the book before the call
made : (c : In_ok-departures) → (c.closing_time-time.result ≡ tick (book_state_time_of c.args.self.now c.args.processor) c.args.processor)
    × (letters c.in_ok-departures.departures
    ≡ transition_departures_to
    (kept_closings_pushed c.args.self.now.closed (transition_open_interval c.args.self.now c.args.processor (map arc_value c.args.records.items)))
    c.args.self.now.barrier (slice_set c.args.self.now.times c.args.processor c.closing_time-time.result) c.args.processor
    c.closing_time-time.result)
made c = (
  c.closing_time-time.ensures ∙ ap (λ (b : BookState). tick (book_state_time_of b c.args.processor) c.args.processor)
      (c.parts.view_is ∙ c.deref_mut-parts.ensures.value ∙ c.self.view_is),
  barrier_arrival_departures_made c.args.processor (map arc_value c.args.records.items) c.closing_time-time.result
      (c.parts.view_is ∙ c.deref_mut-parts.ensures.value ∙ c.self.view_is) c.open_interval-interval.ensures
      c.in_ok-departures.ensures,
)

pub post_all_mail-requires : goal.post_all_mail-requires
post_all_mail-requires c =
    let w = made (goal.at.post_all_mail-requires c).In_ok-departures in
    ap (λ (b : BookState). b.transit) (closed (goal.at.post_all_mail-requires c).After-parts-2)
    ∙ barrier_arrival_finds_no_mail c.args.self.now c.args.processor
    (kept_closings_pushed c.args.self.now.closed (transition_open_interval c.args.self.now c.args.processor (map arc_value c.args.records.items)))
    c.closing_time-time.result (map letter c.in-Some.messages.items)
    (barrier_arrival_allowed c.args.self.now c.args.processor c.args.block.now c.requires.call) w.0 (sym (ap letters c.in-Some.is) ∙ w.1)
    ∙ ap (λ (n : ℕ). replicate n None) (length-map c.in-Some.messages.items letter)

pub returns : goal.returns
returns c =
    let w = made (goal.at.returns c).In_ok-departures in
    let is = closed (goal.at.returns c).After-parts-2 in
    let records = map arc_value c.args.records.items in
    record {
      ok = elim c.match-departures-2.branch [
        | in-Some x ↦ ap (λ (i : Inside). i.parts.value) x.self-inside-is
            ∙ barrier_arrival_met c.args.self.now (book_invariant_state c.parts-2.inside) c.args.processor c.args.block.now records
            c.closing_time-time.result is w.0 c.arrive.new.self x.post_all_mail.new.transit
            (map letter x.in-Some.messages.items) c.arrive.ensures.barrier x.post_all_mail.ensures
            (sym (ap letters x.in-Some.is) ∙ w.1)
        | in_default x ↦ ap (λ (i : Inside). i.parts.value) x.self-inside-is
            ∙ barrier_arrival_alone c.args.self.now (book_invariant_state c.parts-2.inside) c.args.processor c.args.block.now records
            c.closing_time-time.result is w.0 c.arrive.new.self c.arrive.ensures.barrier
            (sym (ap letters x.in_default.is) ∙ w.1)
      ];
      err = search rules;
      full = search rules;
      only = search rules;
    }
