use Rattle.std.proofs.Common.{◌∙◌}
use Rattle.explore.proofs.search.whole_run.RunSoFar.go_round.Goals as goal

pub go_on-requires-clause-run : goal.go_on-requires-clause-run
go_on-requires-clause-run c =
    (c.requires.0, c.requires.1, c.loop-processor.invariant.run c.requires.0 c.requires.1 c.requires.2)

pub loop-processor-preserved : goal.loop-processor-preserved
loop-processor-preserved c = record {
  run = λ s lawful has. c.in_ok-gets_on.ensures.run s lawful (c.loop-processor.invariant.run s lawful has);
  telling = c.in_ok-gets_on.ensures.telling ∙ c.loop-processor.invariant.telling;
}
