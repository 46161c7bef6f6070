-- The definitions that the contracts of this crate cite.
pub mod Graphics
pub mod Entries
pub mod ReadBack
pub mod Laws
