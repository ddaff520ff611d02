use Rattle.causes.proofs.LastHeard.{LastHeardBelow}
use Rattle.causes.proofs.heard.last_heard.Given as goal

abbrev pub invariant-loop-place : goal.invariant-loop-place
invariant-loop-place l = LastHeardBelow l.events l.by l.second l.place l.heard
