-- The definitions that the contracts of this crate cite.
pub mod Mappings
pub mod Modes
pub mod Rates
pub mod Report
pub mod Sending
pub mod Settings
pub mod Shells
pub mod Terminal
pub mod Windows
