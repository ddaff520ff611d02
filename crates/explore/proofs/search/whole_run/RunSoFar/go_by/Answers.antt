use Rattle.std.proofs.Common.{◌∙◌}
use Rattle.explore.proofs.search.whole_run.RunSoFar.go_by.Goals as goal

pub take_turn-requires : goal.take_turn-requires
take_turn-requires c = (c.requires.0, c.requires.1, c.loop.invariant.run c.requires.0 c.requires.1 c.requires.2)

pub loop-preserved : goal.loop-preserved
loop-preserved c = record {
  run = λ s lawful has. c.in_ok-take_turn.ensures.run s lawful (c.loop.invariant.run s lawful has);
  telling = c.in_ok-take_turn.ensures.telling ∙ c.loop.invariant.telling;
}

pub returns-then-not-branch-clause-run : goal.returns-then-not-branch-clause-run
returns-then-not-branch-clause-run c = λ s lawful has. c.in_ok-take_turn.ensures.run s lawful (c.loop.invariant.run s lawful has)
