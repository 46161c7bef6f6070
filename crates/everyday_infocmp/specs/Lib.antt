-- The definitions that the contracts of this crate cite.
pub mod Directories
pub mod Entries
pub mod Initializing
pub mod Joining
pub mod Listings
pub mod Names
pub mod PlainListings
pub mod Reading
pub mod TermcapListings
pub mod Tool
