-- The definitions that the contracts of this crate cite.
pub mod Causes
pub mod Counting
pub mod Deciding
pub mod Giving
pub mod Holdings
pub mod Places
pub mod Spots
pub mod Symbols
pub mod inside
