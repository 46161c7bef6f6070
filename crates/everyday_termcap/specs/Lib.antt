-- The definitions that the contracts of this crate cite.
pub mod Lists
pub mod Contents
pub mod Items
pub mod Limits
pub mod Reset
pub mod Whole
