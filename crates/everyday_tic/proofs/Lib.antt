-- Lemmas of this crate.
pub mod Becoming
pub mod Determined
pub mod Drawn
pub mod Filing
pub mod Running
pub mod Spelled
pub mod Stopping
pub mod WholeNames
pub mod Winning
