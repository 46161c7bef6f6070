-- Words that only private functions and proofs use.
pub mod Found
pub mod States
pub mod Stops
