-- Words that only private functions and proofs use.
pub mod Steps
