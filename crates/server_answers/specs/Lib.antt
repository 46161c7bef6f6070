-- The definitions that the contracts of this crate cite.
pub mod Answers
pub mod Fixes
pub mod Floats
pub mod InstalledOffers
pub mod Laying
pub mod Offers
pub mod Searching
pub mod Shown
pub mod Signatures
