use Rattle.std.proofs.Common.{◌≡◌, take}
use Rattle.explore.specs.OutcomeTelling.{outcome_telling_replies}
use Rattle.explore.proofs.outcomes.told_replies.told_replies_of.Given as goal

abbrev pub invariant-loop-place : goal.invariant-loop-place
invariant-loop-place l = l.replies.items ≡ outcome_telling_replies l.telling l.processor l.steps 0 (take l.place l.calls)
