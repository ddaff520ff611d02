use Rattle.std.proofs.Common.{◌+◌, arith}
use Rattle.std.proofs.Math.Nat.{mod-lt}
use Rattle.turn.proofs.boards.ArrayBoardBoard.pass.Goals as goal

pub store-requires : goal.store-requires
store-requires g c =
    let wide = c.requires.width in
    let below = mod-lt (c.args.number + 1) c.requires.some in
    let word = c.at.ensures in
    (c.requires.own, omega arith, rw word c.requires.rule)
