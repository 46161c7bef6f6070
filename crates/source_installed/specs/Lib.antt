-- The definitions that the contracts of this crate cite.
pub mod Directories
pub mod Names
pub mod Missed
pub mod Completed
pub mod Findings
