use Rattle.std.proofs.Common.{subst}
use Rattle.std.specs.Prelude.{IfSome}
use Rattle.explore.specs.WholeRuns.{IsNextTurn}
use Rattle.explore.proofs.search.whole_run.RunSoFar.take_turn.Goals as goal

pub next_turn-requires : goal.next_turn-requires
next_turn-requires c =
    let run = c.requires.2 in
    record { plan = c.requires.0; lawful = c.requires.1; events = run.0; knows = run.1.knows }

pub step-requires : goal.step-requires
step-requires c =
    let s = c.requires.0 in
    let run = c.requires.2 in
    let turn = subst (λ o. IfSome o (IsNextTurn c.args.steps.now c.args.self.now.state)) c.in-Some.is c.next_turn.ensures in
    record {
      plan = s;
      lawful = c.requires.1;
      events = run.0;
      knows = run.1.knows;
      next = turn.next s run.0 c.requires.1 run.1.knows;
    }

pub returns-clause-run : goal.returns-clause-run
returns-clause-run c = λ s lawful run.
    let turn = subst (λ o. IfSome o (IsNextTurn c.args.steps.now c.args.self.now.state)) c.in-Some.is c.next_turn.ensures in
    (_, c.in_ok-step.ensures.through s run.0 lawful run.1 (turn.next s run.0 lawful run.1.knows))
