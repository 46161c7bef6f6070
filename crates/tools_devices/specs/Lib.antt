-- The definitions that the contracts of this crate cite.
pub mod inside
pub mod Answering
pub mod Buffer
pub mod Counted
pub mod Lines
pub mod MemoryTree
pub mod Paths
pub mod Placing
pub mod Reading
pub mod Searching
pub mod Tree
pub mod Writing
