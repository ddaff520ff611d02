use Rattle.std.proofs.Common.{arith}
use Rattle.turn.proofs.boards.TicketBoardBoard.pass.Goals as goal

pub fetch_add-requires : goal.fetch_add-requires
fetch_add-requires g c = let wide = c.requires.width in (c.requires.own, omega arith, c.requires.rule)
