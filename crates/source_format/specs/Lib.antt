-- The definitions that the contracts of this crate cite.
pub mod Pieces
pub mod Kinds
pub mod Layout
pub mod Laws
pub mod Sources
pub mod Folds
pub mod inside
