-- The definitions that the contracts of this crate cite.
pub mod Stopping
pub mod EntryFiles
pub mod Sources
pub mod Compiling
pub mod Listings
pub mod inside
