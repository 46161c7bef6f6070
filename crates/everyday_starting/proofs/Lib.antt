-- Lemmas of this crate.
pub mod Sending
pub mod Writing
