use Rattle.lrc_script.specs.Plan.{plan_of}
use Rattle.lrc_run.proofs.DrawnPlaces.{AreDrawnTurnsSummed}
use Rattle.lrc_run.proofs.steps.drawn.turns_of.Given as goal

abbrev pub invariant-loop-p : goal.invariant-loop-p
invariant-loop-p l = AreDrawnTurnsSummed (plan_of l.script) l.p l.turns
