-- Laws of cuttings by any rule of what a piece is, that the layers above cite.
-- what a record takes
pub mod Laws
-- the turns of the work
pub mod Working
-- a record is the best, and only that
pub mod Best
-- every boundary is reached, where a piece goes from each to the next
pub mod Reaching
-- the records followed back are a cutting
pub mod Following
-- slots in their columns
pub mod Columns
-- slots that hold the records, a start at a time
pub mod Holding
-- the path by the start column
pub mod Tracing
-- what stands in the slots and the path once all starts have been worked, and demand 3 of it
pub mod Leaving
