-- The definitions that the contracts of this crate cite.
pub mod Faulty
pub mod Folding
pub mod Found
pub mod Ordinals
pub mod Parts
pub mod Replacing
pub mod Sentences
pub mod Subjects
pub mod Touching
pub mod Words
pub mod inside
