use Rattle.std.proofs.Common.{rules}
use Rattle.lrc_tester.proofs.drawing.draw.item.Goals as goal

pub returns-clause-items : goal.returns-clause-items
returns-clause-items c = search rules
