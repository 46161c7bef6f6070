-- The definitions that the contracts of this crate cite.
pub mod Words
pub mod Telling
pub mod Offers
pub mod Fixing
pub mod Laws
pub mod Fixed
pub mod Checking
pub mod Fates
pub mod Report
pub mod Tool
pub mod inside
