-- The paper's table of proved examples, and its pack case.
pub mod Example
pub mod Table
pub mod Case
