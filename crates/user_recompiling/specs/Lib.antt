pub mod Entries
pub mod Shown
