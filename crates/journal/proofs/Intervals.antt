-- An interval: a processor's events since its last closing one, and what they come to.
-- Its places are those after that event (Since); its record is the last store to each word of them (Contents).
-- A word's dirty bit is set exactly where the open interval stored to it, so a harvest has just these (Dirty).
pub mod OpenIntervals
pub mod StoreContents
pub mod DirtyPages
