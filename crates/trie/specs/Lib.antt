-- Trie parts, walks in them, which parts are sound, and the look-up.
pub mod Trie
pub mod Sound
pub mod Walks
pub mod Lookup
