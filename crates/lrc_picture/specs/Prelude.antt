-- The words that contracts name, passed on from one place. Declares nothing.
pub use Rattle.lrc_picture.specs.Label.{picture_label_text}
pub use Rattle.lrc_picture.specs.Marks.{picture_mark_shape_for, picture_mark_for, ArePictureMarks}
pub use Rattle.lrc_picture.specs.Arrows.{arrow_way_for, arrow_for, AreArrowPlaces}
pub use Rattle.lrc_picture.specs.Bars.{bar_for}
pub use Rattle.lrc_picture.specs.PictureLayout.{HasPictureLayout, IsPictureLayoutGrid, IsPictureLayoutOf}
pub use Rattle.lrc_picture.specs.Cutout.{AreCutoutEvents, AreCutoutLanes, AreCutoutPlaces, AreCutoutRowsOf, IsCutout}
pub use Rattle.lrc_picture.specs.Timestamps.{ArePictureTimestampsAfter}
pub use Rattle.lrc_picture.specs.Changes.{AreChangesWithoutCopies, AreRunChanges}
pub use Rattle.lrc_picture.specs.Laws.{PictureSpacingLaw, PictureInsideLaw}
