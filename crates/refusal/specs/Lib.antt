-- The paper's sizes and refusal numbers, and what a call leaves in the places lent to it.
pub mod Sizes
pub mod Refusal
pub mod Coding
pub mod Places
pub mod Lent
