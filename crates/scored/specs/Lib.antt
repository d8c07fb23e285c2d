-- A Unigram trie from rows: what `build` promises.
pub mod Build
pub mod NodeScores
