use Rattle.turn.proofs.LawfulBoards.{lawful_board_points}
use Rattle.turn.proofs.boards.ArrayBoardBoard.lawful.Goals as goal

pub returns : goal.returns
returns c = lawful_board_points c.args._seats c.requires
