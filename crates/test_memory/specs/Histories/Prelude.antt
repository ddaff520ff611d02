-- The words that contracts name, passed on from one place. Declares nothing.
pub use Rattle.test_memory.specs.Histories.Telling.{MadeFrom, MayCloseHere, Telling}
pub use Rattle.test_memory.specs.Histories.Keeping.{RepresentsWithRoom, telling_of}
pub use Rattle.test_memory.specs.Histories.Records.{AreOpenBelow, IsOpenIn}
pub use Rattle.test_memory.specs.Histories.Reading.{IsHeldAfter}
