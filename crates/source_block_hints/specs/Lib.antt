-- The definitions that the contracts of this crate cite.
pub mod Blocks
pub mod Commas
pub mod Counts
pub mod Delays
pub mod Formats
pub mod Heads
pub mod Laws
pub mod Mentions
pub mod Stacks
pub mod Strings
pub mod Words
