use Rattle.std.proofs.lemmas.Option.{slice_get-get_or}
use Rattle.std.proofs.Common.{arith}
use Rattle.std.proofs.lemmas.Grind.{common_steps, elements}
use Rattle.explore.proofs.state.call_table.CallRow.of_steps.Goals as goal

pub push-requires-clause-step : goal.push-requires-clause-step
push-requires-clause-step c =
    c.requires.steps c.loop-step.step-index _ (slice_get-get_or c.args.steps.now c.loop-step.step-index _ c.loop-step-test.true)

pub loop-step-preserved : goal.loop-step-preserved
loop-step-preserved c = grind (arith, common_steps)

pub returns : goal.returns
returns c = grind (arith, elements)
