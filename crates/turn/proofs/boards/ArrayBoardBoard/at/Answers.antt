use Rattle.std.proofs.Common.{arith}
use Rattle.std.proofs.Math.Nat.{mod-lt}
use Rattle.turn.proofs.boards.ArrayBoardBoard.at.Goals as goal

pub overflow_mul-result : goal.overflow_mul-result
overflow_mul-result c =
    let below = mod-lt c.args.number c.requires.some in
    let fits = c.requires.fits in
    omega arith
