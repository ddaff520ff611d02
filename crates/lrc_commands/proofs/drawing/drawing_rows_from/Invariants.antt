use Rattle.std.proofs.Common.{◌≡◌, ◌-◌, ◌+◌, length}
use Rattle.lrc_commands.proofs.DrawnHistories.{AreDrawnHistoryPlacesBelow}
use Rattle.lrc_commands.proofs.drawing.drawing_rows_from.Given as goal

abbrev pub invariant-loop-row : goal.invariant-loop-row
invariant-loop-row l = record {
  long : length l.left.items + l.opening ≡ l.row;
  within : AreDrawnHistoryPlacesBelow (length l.rows - l.opening) l.left.items;
}
