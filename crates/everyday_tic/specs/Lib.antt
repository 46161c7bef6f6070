-- The definitions that the contracts of this crate cite.
pub mod Characters
pub mod Entries
pub mod Laws
pub mod Messages
pub mod Named
pub mod Notes
pub mod Outcomes
pub mod Termcap
pub mod Writing
pub mod inside
