use Rattle.std.proofs.Common.{ap, arith}
use Rattle.std.proofs.lemmas.Grind.{common_steps}
use Rattle.journal.proofs.event_clocks.EventClocks.arrive.Goals as goal
use Rattle.journal.proofs.event_clocks.EventClocks.arrive.Goals.{then-self-episode+in_ok-join_clock_in, else-self-episode}

pub returns-clause-arrived : goal.returns-clause-arrived
returns-clause-arrived c = elim c.if-self-episode.branch [
  | then-self-episode+in_ok-join_clock_in w ↦ record {
    joined = λ le. grind (arith, common_steps);
    gone = λ lt. absurd (omega (arith, w.if-self-episode.true));
    counted = λ q. grind (arith, common_steps);
  }
  | else-self-episode w ↦ record {
    joined = λ le. absurd (omega (arith, w.if-self-episode.false));
    gone = λ lt. ap (λ x. x.episodes.items) w.self-is;
    counted = λ q. grind (arith, common_steps);
  }
]
