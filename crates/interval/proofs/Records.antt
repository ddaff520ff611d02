-- Loops over the records of one interval, item by item.
-- What a loop has gathered from the first records is a fact of their list; one record more adds its own part.
-- At the end it is the fact of the whole list. (FindAndPush)
pub mod ReadItems
pub mod FindAndPush
