use Rattle.causes.specs.WaitingCircles.{AreWaitCircles}
use Rattle.causes.proofs.waiting_circles.wait_circles.Given as goal

abbrev pub invariant-loop-least : goal.invariant-loop-least
invariant-loop-least l = AreWaitCircles l.waits l.least l.circles.items
