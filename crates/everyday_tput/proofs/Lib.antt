-- Lemmas of this crate.
pub mod Digits
pub mod Holding
pub mod InOrder
pub mod Lines
pub mod Moved
pub mod Needed
pub mod Parts
pub mod Progress
pub mod Saturating
pub mod Steps
