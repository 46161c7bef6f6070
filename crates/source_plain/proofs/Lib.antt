-- Lemmas of this crate.
pub mod Lines
pub mod Returns
pub mod Written
