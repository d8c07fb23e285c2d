-- Laws of refusals, and of numbers and lists, that the layers above cite.
pub mod Tests
pub mod Codings
pub mod Lists
