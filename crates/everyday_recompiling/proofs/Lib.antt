-- Lemmas of this crate.
pub mod Listed
pub mod Names
pub mod Spelled
pub mod WrittenFiles
