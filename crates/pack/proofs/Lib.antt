-- Laws of the pack. Each file rests on those above it.

-- the header's tests
pub mod Headers
-- one row, as it is read
pub mod Readings
-- the rows from one on
pub mod Resting
-- which fault a pack has
pub mod Faults
-- a row as it is entered
pub mod Entered
-- the scores of the rows
pub mod Scoring
-- a pack in which nothing is wrong
pub mod FinePacks
-- the promise, in each case
pub mod Promised
-- after a build: sound parts
pub mod BuiltPacks
-- the promise fixes its outcome
pub mod Determinacy
