-- The definitions that the contracts of this crate cite.
pub mod Completions
pub mod Explaining
pub mod Formatting
pub mod Hovers
pub mod Meanings
pub mod RangeFormatting
pub mod Signatures
pub mod UserMeanings
