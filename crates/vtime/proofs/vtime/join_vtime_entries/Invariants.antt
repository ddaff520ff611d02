-- The entries below q are joined.
use Rattle.std.proofs.Common.{◌≡◌, take}
use Rattle.vtime.specs.TicksAndJoins.{join}
use Rattle.vtime.proofs.vtime.join_vtime_entries.Given as goal

abbrev pub invariant-loop-q : goal.invariant-loop-q
invariant-loop-q l = l.mine ≡ join l.initial.mine (take l.q l.theirs)
