-- Lemmas of this crate.
pub mod Alike
pub mod Once
pub mod Searches
