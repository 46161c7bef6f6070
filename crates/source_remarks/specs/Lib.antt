-- The definitions that the contracts of this crate cite.
pub mod Hints
pub mod Remarks
pub mod Laws
pub mod inside
