use Rattle.std.proofs.Common.{rules}
use Rattle.lrc_tester.proofs.drawing.draw.most_pieces.Goals as goal

pub returns-in-Guarded : goal.returns-in-Guarded
returns-in-Guarded c = search rules
