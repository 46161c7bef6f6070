pub mod Rows
pub mod Rising
pub mod Leading
pub mod Walking
pub mod Closing
pub mod Searching
pub mod Ending
pub mod LawProofs
