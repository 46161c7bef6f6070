-- The definitions that the contracts of this crate cite.
pub mod Constants
pub mod Entries
pub mod Laws
