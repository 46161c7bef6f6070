-- The definitions that the contracts of this crate cite.
pub mod inside
pub mod Replies
pub mod Script
pub mod ScriptLaws
pub mod Streaming
