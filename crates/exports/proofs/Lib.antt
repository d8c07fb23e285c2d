-- The laws of the exported promises. Assumes nothing.

-- each promise fixes its answer and every lent column
pub mod Determinacy
