-- Words that only private functions and proofs use.
pub mod Latest
pub mod Views
pub mod Walking
pub mod Told
