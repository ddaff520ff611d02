use Rattle.std.proofs.Common.{◌≤◌, ◌+◌, arith}
use Rattle.std.proofs.Math.Nat.{mul-le-mul_left}
use Rattle.lrc_picture.proofs.laws.picture_spacing_law.Goals as goal

pub returns : goal.returns
returns c = λ g p q lt.
    let next : p + 1 ≤ q = omega arith in
    record { lanes = omega (arith, mul-le-mul_left g.step next); rows = omega arith }
