-- The paper's examples, proved by computing.
pub mod Opened
pub mod Examples
