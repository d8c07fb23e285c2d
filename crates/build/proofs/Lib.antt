-- The laws of tries and their builds. A layer above cites the first three groups; the last serves the functions that enter
-- rows.

-- strings, their places, and names
pub mod Strings
pub mod Places
pub mod Grown
pub mod Named
-- a built trie: its edges, steps, walks and look-ups, and that it is sound
pub mod Edges
pub mod Laid
pub mod Counted
pub mod Sounds
pub mod Ruled
pub mod Lookups
-- the core's callers: room, judged rows, what an answer says, one outcome
pub mod Rooms
pub mod Judging
pub mod Outcomes
pub mod Determinacy
-- the promise of every build: its cases, what it says, and the trie that is left
pub mod Promises
pub mod BuiltTries
-- entering tokens and laying out nodes, step by step; `Rowing` and `Filled` also serve a caller that enters rows of its own
pub mod Linking
pub mod Seeking
pub mod Holding
pub mod Entering
pub mod Marking
pub mod Rowing
pub mod Children
pub mod Out
pub mod Zeros
pub mod Filled
