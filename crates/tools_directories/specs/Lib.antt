-- The definitions that the contracts of this crate cite.
pub mod Directories
pub mod Finding
pub mod Outputs
pub mod Paths
pub mod Reading
