-- The definitions that the contracts of this crate cite.
pub mod Descriptions
pub mod Words
pub mod UserDescriptions
