-- What one timestamp covers and another doesn't: that is sent, in closing order.
-- Owner by owner it is a stretch of the queue (Gathered); sorted by closing number it is a part of the one list
-- (InClosingOrder). An interval that nobody concerned performs, or has performed, changes nothing (Unchanged).
pub mod Gathered
pub mod InClosingOrder
pub mod BetweenUnchanged
