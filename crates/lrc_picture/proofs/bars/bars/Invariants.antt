use Rattle.std.proofs.Common.{◌≡◌, map, take}
use Rattle.lrc_picture.specs.Bars.{bar_for}
use Rattle.lrc_picture.proofs.bars.bars.Given as goal

abbrev pub invariant-loop-row : goal.invariant-loop-row
invariant-loop-row l = l.bars.items ≡ map (bar_for l.grid) (take l.row-index l.rows)
