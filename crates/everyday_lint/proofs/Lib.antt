-- Lemmas of this crate.
pub mod BlocksCut
pub mod CertainOrder
pub mod Changes
pub mod Choices
pub mod FixedBlocks
pub mod FixedFiles
pub mod FixedLines
pub mod FixingProofs
pub mod MarksStay
pub mod OfferedEdits
pub mod OpenEnds
pub mod OtherLines
pub mod Sentences
pub mod Turns
pub mod Walking
pub mod Unread
