-- Laws of what is printed.
pub mod Putting
pub mod Decimals
pub mod Ending
pub mod Printing
pub mod Following
pub mod Whole
pub mod Packs
pub mod Determinacy
