-- The definitions that the contracts of this crate cite.
pub mod Applied
pub mod Commas
pub mod Fixes
pub mod Healing
pub mod HintFixes
pub mod Laws
pub mod Parting
pub mod Resolving
pub mod Together
pub mod UserNames
