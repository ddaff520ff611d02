-- What is promised of layouts.
use Rattle.std.specs.Prelude.{ℕ, ◌≡◌, ◌+◌, ◌<◌, ◌≤◌, List, Some, slice_get}
use Rattle.journal.specs.declared.event.Event.{Event}
use Rattle.journal.specs.EventsInRange.{EventProcessorsInRange}
use Rattle.lrc_picture.specs.declared.picture_grid.PictureGrid.{PictureGrid}
use Rattle.lrc_picture.specs.declared.picture_layout.DiagramLayout.{DiagramLayout}
use Rattle.lrc_picture.specs.declared.marks.Mark.{Mark}
use Rattle.lrc_picture.specs.PictureGrid.{picture_grid_x_of, picture_grid_y_of, picture_grid_width, picture_grid_height}
use Rattle.lrc_picture.specs.PictureLayout.{IsPictureLayoutOf}

-- a lane is a step or more left of each later one, a row 24 pixels or more above each later one
pub record IsSpacedByPictureLaw (g : PictureGrid) (p q : ℕ) : Type 0 where
  pub lanes : picture_grid_x_of g p + g.step ≤ picture_grid_x_of g q
  pub rows : picture_grid_y_of g p + 24 ≤ picture_grid_y_of g q

abbrev pub PictureSpacingLaw : Type 0
PictureSpacingLaw = (g : PictureGrid) (p q : ℕ) → p < q → IsSpacedByPictureLaw g p q

-- the mark lies within the picture, with a step to the right edge
pub record IsInsideByPictureLaw (g : PictureGrid) (m : Mark) : Type 0 where
  pub across : m.at.x + g.step ≤ picture_grid_width g
  pub down : m.at.y + 24 ≤ picture_grid_height g

abbrev pub PictureInsideLaw : Type 0
PictureInsideLaw =
    (n : ℕ) (j : List Event) (l : DiagramLayout) (k : ℕ) (m : Mark) → EventProcessorsInRange n j → IsPictureLayoutOf n j l
    → slice_get l.marks.items k ≡ Some m → IsInsideByPictureLaw l.grid m
