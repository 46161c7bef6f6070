-- The definitions that the contracts of this crate cite.
pub mod Candidates
pub mod Carets
pub mod Edits
pub mod Laws
pub mod Narrowing
pub mod Nearest
pub mod Pieces
pub mod Shown
pub mod inside
