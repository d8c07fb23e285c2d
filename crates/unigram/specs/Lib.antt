-- Unigram: pieces, ids, and what `segment` promises.
pub mod Runs
pub mod Pieces
pub mod Segment
pub mod Work
pub mod Merge
pub mod Checked
