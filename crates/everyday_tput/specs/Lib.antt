-- The definitions that the contracts of this crate cite.
pub mod Answers
pub mod Calls
pub mod Clearing
pub mod Commands
pub mod Laws
pub mod Numbers
pub mod Parameters
pub mod Running
pub mod Runs
pub mod Sizes
pub mod inside
