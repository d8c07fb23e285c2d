-- Laws of Unigram that the layers above cite.
pub mod Laws
pub mod Determinacy
-- merged ids are no more than the pieces
pub mod Merging
-- a Unigram trie's pieces meet what these laws ask
pub mod Given
-- the work at one boundary
pub mod Offering
-- ids placed one after another
pub mod Placing
-- the whole cutting
pub mod Segmenting
-- which test gives which fault, and the promise of `segment`
pub mod Refusing
-- the tries that `scored::build` leaves
pub mod BuiltTries
