-- Definitions that only private contracts and proofs use.
pub mod Lines
pub mod Marks
