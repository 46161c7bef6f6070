-- Lemmas of this crate.
pub mod Arrays
pub mod Marks
