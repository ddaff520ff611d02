-- The marks of a picture.
use Rattle.std.specs.Prelude.{ℕ, ◌≡◌, List, Some, length, slice_get}
use Rattle.journal.specs.declared.event.Event.{Event}
use Rattle.journal.specs.declared.event.Kind.{Kind}
use Rattle.journal.specs.declared.event.Kind.TheVariants.{Load, Store, Fetch, Ask, Acquire, Release, Arrive, Depart, Set, Watch, Await}
use Rattle.journal.specs.Events.{EventAt}
use Rattle.lrc_picture.specs.declared.picture_grid.PictureGrid.{PictureGrid}
use Rattle.lrc_picture.specs.declared.marks.Mark.{Mark}
use Rattle.lrc_picture.specs.declared.marks.MarkShape.{MarkShape}
use Rattle.lrc_picture.specs.declared.marks.MarkShape.TheVariants.{Disc, Ring, Dash, Frame, Block, Wedge}
use Rattle.lrc_picture.specs.PictureGrid.{picture_grid_crossing}

-- stores are filled circles, loads open ones, fetches short bars; what others wait for is a filled square, what begins to
-- wait an open one, and what ends a wait a triangle
abbrev pub picture_mark_shape_for : Kind → MarkShape
picture_mark_shape_for (Load a v) = Ring
picture_mark_shape_for (Store a v) = Disc
picture_mark_shape_for (Fetch writers page records words) = Dash
picture_mark_shape_for (Ask l) = Frame
picture_mark_shape_for (Acquire l) = Wedge
picture_mark_shape_for (Release l) = Block
picture_mark_shape_for Arrive = Block
picture_mark_shape_for Depart = Wedge
picture_mark_shape_for (Set f) = Block
picture_mark_shape_for (Watch f) = Frame
picture_mark_shape_for (Await f) = Wedge

-- the mark of the event in row r: on its processor's line
abbrev pub picture_mark_for : PictureGrid → ℕ → Event → Mark
picture_mark_for g r e = record { at = picture_grid_crossing g e.processor r; shape = picture_mark_shape_for e.kind }

-- a mark is that of the event in this row
abbrev pub IsPictureMarkOf : PictureGrid → List Event → ℕ → Mark → Type 0
IsPictureMarkOf g j k m = (e : Event) → EventAt j k e → m ≡ picture_mark_for g k e

-- so are the first marks, each in a row of its own
abbrev pub ArePictureMarksOf : PictureGrid → List Event → List Mark → Type 0
ArePictureMarksOf g j marks = (k : ℕ) (m : Mark) → slice_get marks k ≡ Some m → IsPictureMarkOf g j k m

-- a mark for each event
pub record ArePictureMarks (g : PictureGrid) (j : List Event) (marks : List Mark) : Type 0 where
  pub long : length marks ≡ length j
  pub each : ArePictureMarksOf g j marks
