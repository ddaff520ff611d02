use Rattle.std.proofs.Common.{ℕ, ◌<◌}
use Rattle.explore.specs.TextWalks.{IsTextWalkRowThrough}
use Rattle.explore.proofs.text.walk.TextWalk.first_unfinished.Given as goal

abbrev pub invariant-loop-processor : goal.invariant-loop-processor
invariant-loop-processor l = (p : ℕ) → p < l.processor → IsTextWalkRowThrough l.steps l.self.rows.items p
