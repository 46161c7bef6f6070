-- Words that only private functions and proofs use.
pub mod Loading
pub mod Names
