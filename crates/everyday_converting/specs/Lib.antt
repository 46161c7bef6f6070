-- The definitions that the contracts of this crate cite.
pub mod Bytes
pub mod Pieces
pub mod Strings
