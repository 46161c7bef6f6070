-- Computed forms of what the other files define by relations, and words that only private functions
-- and proofs use.
pub mod Answers
pub mod Commands
