-- The definitions that the contracts of this crate cite.
pub mod Layouts
pub mod Fates
pub mod Report
pub mod Tool
pub mod Laws
