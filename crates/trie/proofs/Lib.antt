-- The laws of tries that the layers above cite, and those that the functions' proofs share. Assumes nothing.

-- a test of every number below a count
pub mod Every
-- the facts that the test of soundness stands for
pub mod SoundParts
-- looking a byte up among rising bytes
pub mod Seeking
-- a table of where each byte leads
pub mod Leading
-- walks compose, and stay in sound parts
pub mod Walking
-- which test gives which fault, and what an answer says, both ways
pub mod Lookups
-- the promise of a look-up fixes its answer
pub mod Determinacy
