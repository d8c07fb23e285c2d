-- Which trie a row list has, and what a build leaves in the memory lent to it.
pub mod Names
pub mod Grown
pub mod Links
pub mod Parts
pub mod Rules
pub mod Given
pub mod Held
pub mod Laying
pub mod Memory
pub mod Checked
pub mod Promise
