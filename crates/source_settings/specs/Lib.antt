-- The definitions that the contracts of this crate cite.
pub mod Levels
pub mod Settings
pub mod Refusals
pub mod Document
pub mod Files
pub mod Finding
pub mod Comments
pub mod Published
pub mod Laws
pub mod inside
