-- The pack file, and what a build from it promises.
pub mod Pack
pub mod Build
pub mod Reading
