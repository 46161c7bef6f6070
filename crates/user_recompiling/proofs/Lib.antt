pub mod UserBytes
pub mod Sources
pub mod SourceNames
pub mod Blocks
pub mod EntryLaws
pub mod Names
