-- The definitions that the contracts of this crate cite.
pub mod Sayings
pub mod Steps
pub mod Answers
pub mod Runs
pub mod Serving
pub mod States
pub mod inside
