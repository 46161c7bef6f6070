-- The definitions that the contracts of this crate cite.
pub mod Columns
pub mod Places
pub mod Report
pub mod Sentences
pub mod inside
