-- Lemmas of this crate.
pub mod Pieces
pub mod Staying
pub mod Holding
pub mod Written
pub mod Reading
