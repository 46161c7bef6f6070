-- The definitions that the contracts of this crate cite.
pub mod Position
pub mod Splicing
pub mod LineStarts
pub mod LineTexts
pub mod Columns
