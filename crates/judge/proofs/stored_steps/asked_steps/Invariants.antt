use Rattle.std.proofs.Common.{◌≡◌, ◌++◌, drop}
use Rattle.judge.specs.AskedPlaces.{asked_steps_from}
use Rattle.judge.proofs.stored_steps.asked_steps.Given as goal

abbrev pub invariant-loop-step : goal.invariant-loop-step
invariant-loop-step l = l.left.items ++ asked_steps_from l.asked l.from (drop l.step-index l.steps) ≡ asked_steps_from l.asked 0 l.steps
