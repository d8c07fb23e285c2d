-- Vocabularies of either kind, and what coding a text in one promises.
pub mod Vocabulary
pub mod Columns
