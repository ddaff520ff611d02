use Rattle.lrc_picture.specs.Cutout.{AreCutoutRowsOf}
use Rattle.lrc_picture.proofs.cutout.cutout_rows_of.Given as goal

abbrev pub invariant-loop-row : goal.invariant-loop-row
invariant-loop-row l = AreCutoutRowsOf l.count l.places l.rows.items
