use Rattle.std.proofs.Common.{◌≡◌, ℕ, List, map, slice_index_or, slice_set, [], ap, ◌∙◌, sym, subst, arith}
use Rattle.std.proofs.lemmas.List.{length-set, map-append}
use Rattle.interval.specs.SentIntervals.{ClosedInterval, SentRecord}
use Rattle.interval.specs.KeptClosings.{HasKeptClosingsBetween, kept_closings_pushed, kept_closings_between}
use Rattle.transit.specs.Letters.{Letter, letter}
use Rattle.book.specs.Transitions.{transition_departure_to}
use Rattle.transit.specs.Letters.LetterKind.{departure}
use Rattle.book.proofs.Calling.BarrierArrivals.{IsTimeAfterBarrierArrival, barrier_arrival_time_read, IsDepartingByBarrierArrival, barrier_arrival_departing_step}
use Rattle.book.proofs.mail.departure_mail.Goals.{After-mail_time_after-old}
use Rattle.book.proofs.mail.departure_mail.Goals as goal

-- a departure of these notices
abbrev departs : List SentRecord → List ℕ → Letter
departs notices time = record { kind = departure; time = time; notices = notices }

-- the timestamp of q once the interval's owner has closed it
read : (c : After-mail_time_after-old) → c.mail_time_after-old.result.now
    ≡ slice_index_or (slice_set c.args.times.now c.args.interval.now.owner c.args.own.now) c.loop-q.q []
read c =
    let owner = ap (λ (i : ClosedInterval). i.owner) c.interval.view_is in
    let after : IsTimeAfterBarrierArrival c.args.times.now c.args.interval.now.owner c.loop-q.q c.args.own.now
    c.mail_time_after-old.result.now = record {
      t = c.index-times-q.result;
      closer = c.requires.processor;
      there = c.loop-q-test.true;
      read = c.index-times-q.is;
      mine = λ is. c.mail_time_after-old.ensures.owner (is ∙ sym owner);
      others = λ apart. c.mail_time_after-old.ensures.others (λ is. apart (is ∙ owner));
    } in
    barrier_arrival_time_read after

pub between_after_interval-requires-clause-kept : goal.between_after_interval-requires-clause-kept
between_after_interval-requires-clause-kept c =
    let is = read (goal.at.between_after_interval-requires-clause-kept c).After-mail_time_after-old in
    let may = c.requires.all c.loop-q.q c.loop-q-test.true in
    subst (λ t. HasKeptClosingsBetween c.args.closed.now t c.args.time.now) (sym is)
    (record { old_long = may.long; new_long = c.requires.long; none_trimmed = may.kept })

pub loop-q-preserved : goal.loop-q-preserved
loop-q-preserved c =
    let is = read (goal.at.loop-q-preserved c).After-mail_time_after-old in
    let long = length-set c.args.times.now c.args.interval.now.owner c.args.own.now in
    let lt = c.loop-q-test.true in
    let m : Letter = record { kind = departure; time = c.copy-time.result; notices = c.in_ok-notices.notices.items } in
    let one : m ≡ transition_departure_to (kept_closings_pushed c.args.closed.now c.args.interval.now)
    c.args.time.now c.mail_time_after-old.result.now =
    ap (λ (ns : List SentRecord). departs ns c.copy-time.result) c.in_ok-notices.ensures.value
    ∙ ap (λ (t : List ℕ). departs
    (kept_closings_between (kept_closings_pushed c.args.closed.now c.args.interval.now) c.mail_time_after-old.result.now c.args.time.now) t)
    c.copy-time.ensures in
    let more = ap (map letter) c.in_ok-push.ensures.items ∙ map-append letter c.loop-q.departures.items _ in
    let step : IsDepartingByBarrierArrival (kept_closings_pushed c.args.closed.now c.args.interval.now) c.args.time.now
    (slice_set c.args.times.now c.args.interval.now.owner c.args.own.now) c.loop-q.q
    (map letter c.push.new.self.items) = record {
      old = c.mail_time_after-old.result.now;
      ms = map letter c.loop-q.departures.items;
      m = m;
      made = c.loop-q.invariant;
      less = omega arith;
      read = is;
      one = one;
      more = more;
    } in
    barrier_arrival_departing_step step
