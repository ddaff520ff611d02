-- What a fault says: with this line no script begins, and the fault is the first true one of the order of tests.
-- A line that is read adds one item to the lines before it (Adds), so a line that isn't adds nothing to any (Says).
-- The sizes' line has no lines before it (Sizes); Uneven looks at whole scripts only.
pub mod LineAdds
pub mod RefusedLines
pub mod ScriptWalk
pub mod EvenSections
pub mod SizesAlone
