-- Lemmas of this crate.
pub mod Agreeing
pub mod Determined
pub mod Drawn
pub mod ReadBack
pub mod Rows
