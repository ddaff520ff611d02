-- The layout of a picture.
use Rattle.std.specs.Prelude.{ℕ, ◌≡◌, ◌≢◌, ◌+◌, ◌*◌, ◌<◌, ◌≤◌, List, length}
use Rattle.std.specs.Global.{Vec}
use Rattle.base.specs.Limits.{most_held}
use Rattle.journal.specs.declared.event.Event.{Event}
use Rattle.journal.specs.Events.{EventAt}
use Rattle.journal.specs.EventsInRange.{EventProcessorsInRange}
use Rattle.judge.specs.JudgedSizes.{most_judged_processors}
use Rattle.lrc_picture.specs.declared.picture_grid.PictureGrid.{PictureGrid}
use Rattle.lrc_picture.specs.declared.picture_layout.DiagramLayout.{DiagramLayout}
use Rattle.lrc_picture.specs.Arrows.{AreArrowPlaces}
use Rattle.lrc_picture.specs.Label.{picture_label_text}
use Rattle.lrc_picture.specs.Marks.{ArePictureMarks}

-- these events of n processors can be drawn, with these places that lead to each
pub record HasPictureLayout (n : ℕ) (j : List Event) (incoming : List (Vec ℕ)) : Type 0 where
  pub few : length j ≤ most_held
  pub few_processors : n ≤ most_judged_processors
  pub processors : EventProcessorsInRange n j
  pub places : AreArrowPlaces (length j) incoming

-- that many pixels have room for each label, at eight pixels a byte, and for the mark beside it
abbrev pub PictureLayoutHasRoom : List Event → ℕ → Type 0
PictureLayoutHasRoom j room = (k : ℕ) (e : Event) → EventAt j k e → length (picture_label_text e.kind) * 8 + 40 ≤ room

-- a lane for each of n processors, a row for each event and one more; where labels stand between lanes these have room for
-- them, else the column of labels has
pub record IsPictureLayoutGrid (n : ℕ) (j : List Event) (g : PictureGrid) : Type 0 where
  pub lanes : g.lanes ≡ n
  pub rows : length j < g.rows
  pub beside : g.side ≡ 0 → PictureLayoutHasRoom j g.step
  pub aside : g.side ≢ 0 → PictureLayoutHasRoom j g.side

-- such a grid, and a mark for each event
pub record IsPictureLayoutOf (n : ℕ) (j : List Event) (l : DiagramLayout) : Type 0 where
  pub grid : IsPictureLayoutGrid n j l.grid
  pub marks : ArePictureMarks l.grid j l.marks.items
