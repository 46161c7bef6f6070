-- Words that only private functions and proofs use.
pub mod Kinds
pub mod States
pub mod Pairs
pub mod Lines
