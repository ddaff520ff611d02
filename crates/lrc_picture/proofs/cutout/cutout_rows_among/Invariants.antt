use Rattle.std.proofs.Common.{All, ◌<◌}
use Rattle.lrc_picture.proofs.cutout.cutout_rows_among.Given as goal

abbrev pub invariant-loop-place : goal.invariant-loop-place
invariant-loop-place l = All (λ r. r < l.count) l.among.items
