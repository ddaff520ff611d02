-- Where the lanes and rows of a picture lie, in pixels from its left upper corner.
use Rattle.std.specs.Prelude.{ℕ, ◌+◌, ◌*◌}
use Rattle.lrc_picture.specs.declared.picture_grid.PictureGrid.{PictureGrid}
use Rattle.lrc_picture.specs.declared.picture_grid.Point.{Point}

-- the line of this processor
abbrev pub picture_grid_x_of : PictureGrid → ℕ → ℕ
picture_grid_x_of g p = 104 + p * g.step

-- the events of this row
abbrev pub picture_grid_y_of : PictureGrid → ℕ → ℕ
picture_grid_y_of g r = 88 + r * 24

-- where this processor's line and this row meet
abbrev pub picture_grid_crossing : PictureGrid → ℕ → ℕ → Point
picture_grid_crossing g p r = record { x = picture_grid_x_of g p; y = picture_grid_y_of g r }

-- right of the lanes there is the column of labels, and a margin; below the rows there is one, too
abbrev pub picture_grid_width : PictureGrid → ℕ
picture_grid_width g = picture_grid_x_of g g.lanes + g.side + 16

abbrev pub picture_grid_height : PictureGrid → ℕ
picture_grid_height g = picture_grid_y_of g g.rows + 16
