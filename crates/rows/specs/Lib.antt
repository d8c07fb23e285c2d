-- Rows: what they are, how they are lent, which is the first bad one, and the unknown score.
pub mod Rows
pub mod Columns
pub mod Scores
pub mod Answers
