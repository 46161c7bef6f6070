-- Words that only private functions and proofs use.
pub mod Asked
pub mod Running
pub mod Strings
pub mod Terminal
