-- The definitions that the contracts of this crate cite.
pub mod Fields
pub mod Entries
pub mod Laws
