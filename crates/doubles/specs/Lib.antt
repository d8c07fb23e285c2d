-- IEEE 754 doubles as whole numbers of units of 2 ^ -1074, and what a program's `f64` is among them.
pub mod Double
pub mod Units
pub mod Pattern
