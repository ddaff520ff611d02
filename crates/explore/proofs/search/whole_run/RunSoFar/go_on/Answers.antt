use Rattle.std.proofs.Common.{◌∙◌}
use Rattle.explore.proofs.search.whole_run.RunSoFar.go_on.Goals as goal

pub next-requires-clause-running : goal.next-requires-clause-running
next-requires-clause-running c =
    let s = c.requires.run.0 in
    let lawful = c.requires.run.1 in
    let run = c.loop-done.invariant.run s lawful c.requires.run.2 in
    record { plan = s; lawful = lawful; events = run.0; knows = run.1.knows }

pub step-requires : goal.step-requires
step-requires c =
    let s = c.requires.run.0 in
    let lawful = c.requires.run.1 in
    let run = c.loop-done.invariant.run s lawful c.requires.run.2 in
    record {
      plan = s;
      lawful = lawful;
      events = run.0;
      knows = run.1.knows;
      next = (c.next.ensures s run.0 lawful run.1.knows c.in-Some.kind).0 c.in-Some.is;
    }

pub loop-done-preserved : goal.loop-done-preserved
loop-done-preserved c = record {
  run = λ s lawful has.
      let run = c.loop-done.invariant.run s lawful has in (
        _,
        c.in_ok-step-in-Some.ensures.through s run.0 lawful run.1
            ((c.next.ensures s run.0 lawful run.1.knows c.in-Some.kind).0 c.in-Some.is),
      );
  telling = c.in_ok-step-in-Some.ensures.telling ∙ c.loop-done.invariant.telling;
}
