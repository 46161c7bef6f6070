-- The definitions that the contracts of this crate cite.
pub mod Names
pub mod Matches
pub mod Rules
pub mod inside
pub mod Tasks
pub mod Mistakes
pub mod InfocmpWords
pub mod Commands
pub mod Arguments
pub mod Jobs
