-- The words that contracts name, passed on from one place. Declares nothing.
pub use Rattle.page.specs.PageChanges.{PageChanges, ArePageChangesRising}
pub use Rattle.page.specs.Contents.{Contents, ContentsAreClean}
pub use Rattle.page.specs.PageMarks.{PageMarksBelow, page_marks_of}
pub use Rattle.page.specs.CarriedHarvests.{CarriesStores, CarriedHarvestFits, IsCarriedHarvest}
