-- The definitions that the contracts of this crate cite.
pub mod Installed
pub mod Selection
pub mod Used
pub mod Values
pub mod inside
