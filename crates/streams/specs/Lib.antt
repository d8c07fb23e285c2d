-- What a count of stored cases says.
pub mod Counted
