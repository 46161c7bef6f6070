-- The definitions that the contracts of this crate cite.
pub mod Reading
pub mod Writing
pub mod Laws
