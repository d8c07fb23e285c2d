-- WordPiece: the ids of a word, and what `from_rows` and `encode` promise.
pub mod Build
pub mod Pieces
pub mod Encode
pub mod Checked
