-- A Unigram trie from a slice of rows: what `build_rows` promises.
pub mod BuildRows
pub mod Copied
