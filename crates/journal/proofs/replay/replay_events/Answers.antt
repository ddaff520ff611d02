use Rattle.std.proofs.lemmas.Option.{slice_get-get_or, slice_get_within}
use Rattle.std.proofs.Common.{arith, refl}
use Rattle.journal.proofs.Passes.ReplayedSoFar.{replayed_so_far_next}
use Rattle.journal.proofs.replay.replay_events.Goals as goal

pub loop-event-preserved : goal.loop-event-preserved
loop-event-preserved c =
    let at = slice_get-get_or c.args.events.now c.loop-event.event-index _ c.loop-event-test.true in
    rw c.replay_event.ensures.memory
    (replayed_so_far_next _ _ _ _ _ at c.loop-event.invariant (c.replay_event.ensures.answers.0 c.if-not-replay_event.false))

pub returns-clause-replays : goal.returns-clause-replays
returns-clause-replays c = (
  λ t i p a v does.
      let inside = slice_get_within c.args.events.now i _ does in
      c.loop-event.invariant.loads i (omega arith) p a v does,
  λ r. refl,
)
