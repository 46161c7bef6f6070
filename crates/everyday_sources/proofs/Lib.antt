-- Lemmas of this crate.
pub mod Appending
pub mod Determined
pub mod Finding
pub mod Taking
pub mod Values
