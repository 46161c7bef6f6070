-- Computed forms of what the other files define by relations, and words that only private functions
-- and proofs use.
pub mod Cutting
pub mod Header
pub mod Folding
pub mod Items
pub mod Verdicts
pub mod Parsing
