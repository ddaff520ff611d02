use Rattle.std.proofs.Common.{◌-◌, length}
use Rattle.causes.specs.HandOvers.{AreHandOversFrom}
use Rattle.causes.proofs.hand_over_lists.last_hand_overs.Given as goal

abbrev pub invariant-loop-index : goal.invariant-loop-index
invariant-loop-index l = AreHandOversFrom l.events l.news (length l.news - l.index) l.places.items
