-- Laws of coding in a vocabulary of either kind.
pub mod Codes
