-- Laws of the Unigram build that the layers above cite.
-- the score column of a build
pub mod Storing
-- the promise of `build`, in each case
pub mod Builds
-- the promise met twice, and "exactly when"
pub mod Determinacy
