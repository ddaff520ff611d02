use Rattle.std.proofs.Common.{◌≡◌, ℕ, List, slice_set, map, ap, ◌∙◌}
use Rattle.vtime.specs.TicksAndJoins.{join}
use Rattle.barrier.specs.BarrierEpisodes.{barrier_episode_full, barrier_episode_with_one_more}
use Rattle.interval.specs.SentIntervals.{ClosedInterval}
use Rattle.interval.specs.KeptClosings.{kept_closings_pushed}
use Rattle.transit.specs.Letters.{letter}
use Rattle.book.specs.BookState.{BookState}
use Rattle.book.specs.Transitions.{transition_departure_to}
use Rattle.book.proofs.Calling.BarrierArrivals.{AreDeparturesByBarrierArrival, barrier_arrival_departures_are, barrier_arrival_none_depart}
use Rattle.book.proofs.protocol.Protocol.departures_with.Goals.{After-completes-is_last}
use Rattle.book.proofs.protocol.Protocol.departures_with.Goals as goal

-- whether the episode is complete with this arrival
full : (c : After-completes-is_last) → c.completes-is_last.result
    ≡ barrier_episode_full (barrier_episode_with_one_more c.args.self.now.barrier c.args.interval.now.owner c.args.own.now)
full c =
    c.completes-is_last.ensures.full c.args.own.now
    ∙ ap (λ (n : ℕ). barrier_episode_full (barrier_episode_with_one_more c.self.inside.barrier n c.args.own.now))
    (ap (λ (i : ClosedInterval). i.owner) c.interval.view_is)
    ∙ ap (λ (b : BookState). barrier_episode_full (barrier_episode_with_one_more b.barrier c.args.interval.now.owner c.args.own.now)) c.self.view_is

pub returns-then-not-is_last : goal.returns-then-not-is_last
returns-then-not-is_last c =
    barrier_arrival_none_depart (kept_closings_pushed c.args.self.now.closed c.args.interval.now) c.args.self.now.barrier
    (slice_set c.args.self.now.times c.args.interval.now.owner c.args.own.now)
    c.args.interval.now.owner c.args.own.now c.completes-is_last.result
    (full (goal.at.returns-then-not-is_last c).After-completes-is_last) c.if-not-is_last.true

pub returns : goal.returns
returns c =
    let are : AreDeparturesByBarrierArrival (kept_closings_pushed c.args.self.now.closed c.args.interval.now) c.args.self.now.barrier
    (slice_set c.args.self.now.times c.args.interval.now.owner c.args.own.now) c.args.interval.now.owner
    c.args.own.now (map letter c.in_ok-all.all.items) = record {
      u = c.time_with-time.result;
      full = c.completes-is_last.result;
      is = full (goal.at.returns c).After-completes-is_last;
      all = c.if-not-is_last.false;
      time = c.time_with-time.ensures.value
          ∙ ap (λ (b : BookState). join b.barrier.gathered c.args.own.now) c.self.view_is;
      made = c.in_ok-all.ensures
          ∙ ap (λ (ts : List (List ℕ)). map
          (transition_departure_to (kept_closings_pushed c.self.inside.closed c.args.interval.now) c.time_with-time.result)
          (slice_set ts c.args.interval.now.owner c.args.own.now)) c.deref.ensures.value
          ∙ ap (λ (b : BookState). map (transition_departure_to (kept_closings_pushed b.closed c.args.interval.now) c.time_with-time.result)
          (slice_set b.times c.args.interval.now.owner c.args.own.now)) c.self.view_is;
    } in
    barrier_arrival_departures_are are
