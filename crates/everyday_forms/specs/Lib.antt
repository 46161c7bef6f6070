-- The definitions that the contracts of this crate cite.
pub mod Told
pub mod Excerpts
pub mod Gcc
pub mod Github
pub mod Json
pub mod Counts
pub mod Forms
