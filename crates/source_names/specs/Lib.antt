-- The definitions that the contracts of this crate cite.
pub mod Edited
pub mod NameEdits
pub mod Names
pub mod Renamed
pub mod Renaming
pub mod UserRenamed
pub mod inside
