use Rattle.causes.proofs.LookedUpIndex.{AreLookedUpRowsBelow}
use Rattle.causes.proofs.index.index_closings.Given as goal

abbrev pub invariant-loop-place : goal.invariant-loop-place
invariant-loop-place l = AreLookedUpRowsBelow l.events l.place l.closings.items
