use Rattle.lrc_script.specs.Plan.{plan_of}
use Rattle.lrc_run.proofs.DrawnPlaces.{HaveArrivedBelow}
use Rattle.lrc_run.proofs.steps.drawn.have_arrived.Given as goal

abbrev pub invariant-loop-p : goal.invariant-loop-p
invariant-loop-p l = HaveArrivedBelow (plan_of l.script).sections l.all l.p
