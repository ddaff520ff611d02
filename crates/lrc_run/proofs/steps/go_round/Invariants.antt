use Rattle.std.proofs.Common.{◌≡◌, vec_len}
use Rattle.lrc_script.specs.Plan.{plan_of}
use Rattle.lrc_run.proofs.TurnWays.{IsOnTurnWayBetweenRounds}
use Rattle.lrc_run.proofs.steps.go_round.Given as goal

abbrev pub invariant-loop : goal.invariant-loop
invariant-loop g l = record {
  between : IsOnTurnWayBetweenRounds l.cluster (plan_of l.script) l.fn.seed l.fn.processors.items l.processors.items
      l.fn.all.items l.all.items l.generator;
  long : vec_len l.list ≡ l.cluster.sizes.processors;
}
