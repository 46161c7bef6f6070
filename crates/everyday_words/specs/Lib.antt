-- The definitions that the contracts of this crate cite.
pub mod Arguments
pub mod ClearWords
pub mod Commands
pub mod FmtWords
pub mod Foreign
pub mod InfocmpWords
pub mod LintWords
pub mod Operands
pub mod Requests
pub mod TabsWords
pub mod TicWords
pub mod ToeWords
pub mod TputWords
pub mod TsetWords
pub mod inside
