use Rattle.explore.specs.TextWalks.{AreFlagSettersNoted}
use Rattle.explore.proofs.text.walk.flag_setters_of.Given as goal

abbrev pub invariant-loop-processor : goal.invariant-loop-processor
invariant-loop-processor l = AreFlagSettersNoted l.flags l.steps l.processor
