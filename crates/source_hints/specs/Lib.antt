-- The definitions that the contracts of this crate cite.
pub mod FileForms
pub mod Hints
pub mod Merging
pub mod Unknown
pub mod Following
pub mod Uses
