-- The definitions that the contracts of this crate cite.
pub mod inside
pub mod Initializers
pub mod Marks
pub mod Rows
