-- Words that only private functions and proofs use.
pub mod Blocks
pub mod LineStarts
pub mod Lines
