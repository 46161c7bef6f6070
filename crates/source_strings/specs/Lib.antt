-- The definitions that the contracts of this crate cite.
pub mod Spelled
pub mod Words
pub mod Pieces
pub mod Examples
pub mod Explained
pub mod Places
pub mod Parameters
