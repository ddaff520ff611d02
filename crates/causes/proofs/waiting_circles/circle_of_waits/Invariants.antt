use Rattle.std.proofs.Common.{◌≡◌, length}
use Rattle.causes.proofs.WaitingWalks.{IsWaitingWalk}
use Rattle.causes.proofs.waiting_circles.circle_of_waits.Given as goal

-- a walk of as many steps
abbrev pub invariant-loop : goal.invariant-loop
invariant-loop l = (length l.circle.items ≡ l.counter) × IsWaitingWalk l.waits l.least l.circle.items l.at
