pub mod Answering
pub mod CutLines
pub mod LineSteps
pub mod Listed
pub mod Placed
pub mod Searches
pub mod Written
