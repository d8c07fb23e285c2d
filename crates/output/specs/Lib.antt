-- The lines of the program's input, and what it prints.
pub mod Lines
pub mod Output
pub mod Put
pub mod Cut
