-- The words that contracts name, passed on from one place. Declares nothing.
pub use Rattle.test_memory.specs.Reaching.Reach.{AreRows, IsRow, IsTable}
