-- The bars of a picture.
use Rattle.std.specs.Prelude.{ℕ, ◌-◌}
use Rattle.lrc_picture.specs.declared.bars.Bar.{Bar}
use Rattle.lrc_picture.specs.declared.picture_grid.PictureGrid.{PictureGrid}
use Rattle.lrc_picture.specs.PictureGrid.{picture_grid_crossing}

-- in row k from the first lane to the last one
abbrev pub bar_for : PictureGrid → ℕ → Bar
bar_for g k = record { from = picture_grid_crossing g 0 k; to = picture_grid_crossing g (g.lanes - 1) k }
