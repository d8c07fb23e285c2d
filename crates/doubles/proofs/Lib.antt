-- The laws of doubles, by subject. Each file rests on those above it. Assumes nothing.

-- rounding keeps the order, and no double is nearer
pub mod Rounding
-- comparison is a total order of the numbers
pub mod Order
-- sums keep the order, are doubles, and are -0 only of -0
pub mod Sums
-- the largest double, and what stays finite
pub mod Largest
-- a program's f64 adds and compares as its double does
pub mod Floats
-- bit patterns
pub mod Patterns
-- each promise fixes its answer
pub mod Determinacy
-- worked examples of IEEE 754, in one table
mod Vectors
