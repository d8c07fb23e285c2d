-- How answers are flattened to numbers.
pub mod Flat
