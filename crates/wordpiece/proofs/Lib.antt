-- Laws of WordPiece that the layers above cite.
pub mod Longest
pub mod Turns
pub mod Rest
pub mod Plans
pub mod Few
pub mod Faults
pub mod Readers
pub mod Determinacy
pub mod Builds
pub mod BuiltTries
