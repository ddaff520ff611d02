-- The words that contracts name, passed on from one place. Declares nothing.
pub use Rattle.turn.specs.Chairs.{AreChairsInOrder, AreUnusedChairs, IsChairInside, IsChairOutside, IsSameChair, ChairLockId, ChairMayConfer, ChairMayHandIn, ChairStands}
pub use Rattle.turn.specs.Chairs.{entries, lock, chair_lock_id, chair_place, chair_view}
pub use Rattle.turn.specs.LawOfTurns.{TurnsLaw}
pub use Rattle.turn.specs.Boards.{counting_board_width, pointing_board_width}
