-- RFC 3629, the number that an entry of its table is, what the inner functions promise, and the span check.
pub mod Text
pub mod Lead
pub mod Passing
pub mod Span
pub mod Ascii
