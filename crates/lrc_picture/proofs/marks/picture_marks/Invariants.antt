use Rattle.std.proofs.Common.{◌≡◌, vec_len}
use Rattle.lrc_picture.specs.Marks.{ArePictureMarksOf}
use Rattle.lrc_picture.proofs.marks.picture_marks.Given as goal

abbrev pub invariant-loop-row : goal.invariant-loop-row
invariant-loop-row l = record {
  long : vec_len l.marks ≡ l.row;
  each : ArePictureMarksOf l.grid l.events l.marks.items;
}
