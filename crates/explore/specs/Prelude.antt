-- The words that contracts name, passed on from one place. Declares nothing.
pub use Rattle.explore.specs.FlatOutcomes.{IsFlatOutcome}
pub use Rattle.explore.specs.StateRoom.{state_room_size}
pub use Rattle.explore.specs.Explored.{IsExplored}
pub use Rattle.explore.specs.AllowedUntil.{IsAllowedUntil, is_allowed_until_settled}
pub use Rattle.explore.specs.EndingWords.{IsExploredUntil, IsEndingWordsShowing, are_ending_words_settled}
