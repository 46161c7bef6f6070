-- Words that only private functions and proofs use.
pub mod Heads
pub mod Lines
pub mod Readings
pub mod Steps
