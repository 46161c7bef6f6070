-- The definitions that the contracts of this crate cite.
pub mod Variables
pub mod Codes
pub mod Names
pub mod inside
