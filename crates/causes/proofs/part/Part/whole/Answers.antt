use Rattle.std.proofs.Common.{true, arith}
use Rattle.base.proofs.SliceSets.{slice_get-replicate}
use Rattle.judge.specs.JudgedSizes.{most_judged_processors}
use Rattle.causes.proofs.part.Part.whole.Goals as goal

pub returns : goal.returns
returns c = λ k p lt. record {
  shown = slice_get-replicate most_judged_processors true p lt;
  from = omega arith;
  to = tt;
}
