-- Lemmas of this crate.
pub mod Appending
pub mod LineStarting
pub mod Placing
pub mod Writing
