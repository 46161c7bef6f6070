-- The definitions that the contracts of this crate cite.
pub mod Failures
pub mod Files
pub mod Lines
