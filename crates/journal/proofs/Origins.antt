-- Where the words of copies come from. What a fetch brings is what its gap has (GapOrigins), of which the last store is
-- applied last (Newest). A word stays until an event writes it (WordOrigins); under an open block it is that of the page
-- below the block, or of the block's last store (BlockOrigins).
pub mod GapOrigins
pub mod NewestStores
pub mod WordOrigins
pub mod BlockOrigins
