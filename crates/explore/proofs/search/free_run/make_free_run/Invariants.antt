use Rattle.std.proofs.Common.{◌-◌, length}
use Rattle.explore.specs.FreeRun.{IsFreeRunNoted}
use Rattle.explore.proofs.search.free_run.make_free_run.Given as goal

abbrev pub invariant-loop-state : goal.invariant-loop-state
invariant-loop-state l = IsFreeRunNoted l.steps l.initial.state l.state l.initial.makers.items l.makers.items

abbrev pub decreases-loop-state : goal.decreases-loop-state
decreases-loop-state l = 16 - length l.makers.items
