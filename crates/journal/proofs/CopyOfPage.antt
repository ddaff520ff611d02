-- A valid copy of a page is the zero page after the stores of a past, in an order that extends happens-before.
-- One fact stands for all copies, valid or stale, and each kind of event keeps it (Brought, Pages, OpenBlocks).
-- A load of such a copy answers a latest store of its past (Loads).
pub mod PageStores
pub mod LawfulImages
pub mod Brought
pub mod CopyWithoutGap
pub mod CompleteCopies
pub mod BlockLoads
pub mod UnderBlock
pub mod LoadAnswers
