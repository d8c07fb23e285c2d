-- The laws of text. A layer above cites `Boundaries`, `Valid` and `Spans`; the others serve this crate's functions.
pub mod Table
pub mod Entries
pub mod Characters
pub mod Valid
pub mod Boundaries
pub mod Reading
pub mod Plain
pub mod Passing
pub mod Fitting
pub mod Spans
