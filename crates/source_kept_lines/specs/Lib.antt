-- The definitions that the contracts of this crate cite.
pub mod Parts
pub mod Layout
pub mod Laws
pub mod Sources
pub mod inside
