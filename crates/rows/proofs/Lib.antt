-- The laws of rows, by subject. Each file rests on those above it. Assumes nothing.

-- one row: which test gives which fault, and what a row without one says
pub mod RowFaults
-- the rows of a row list, and its level columns
pub mod RowLists
-- the first bad row is the lowest
pub mod FirstBad
-- the lowest score, and the unknown score
pub mod LowestScores
-- a row list as a whole: the sizes, then the first bad row, and what a list without a fault says
pub mod ListFaults
-- no fault of rows is 7
pub mod NeverRoom
-- which reason is given, exactly when, and that the answer is determined
pub mod Judged
-- each promise fixes its answer
pub mod Determinacy
