-- Computed forms of what the other files define by relations, and words that only private
-- functions and proofs use.
pub mod Names
pub mod Texts
pub mod Database
pub mod Exchanges
