-- Computed forms of what the other files define by relations, and words that only private functions
-- and proofs use.
pub mod Mentions
pub mod Merging
pub mod View
pub mod Values
