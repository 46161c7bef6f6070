-- Computed forms of what the other files define by relations, and words that only private functions
-- and proofs use.
pub mod Terminal
pub mod Replies
pub mod Results
pub mod Runs
pub mod Commands
