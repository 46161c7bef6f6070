-- The definitions that the contracts of this crate cite.
pub mod EntryFiles
pub mod Sources
pub mod inside
