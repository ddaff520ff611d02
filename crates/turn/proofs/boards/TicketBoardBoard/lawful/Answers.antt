use Rattle.turn.proofs.LawfulBoards.{lawful_board_counts}
use Rattle.turn.proofs.boards.TicketBoardBoard.lawful.Goals as goal

pub returns : goal.returns
returns c = lawful_board_counts
