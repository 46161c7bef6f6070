-- Lemmas of this crate.
pub mod FieldLemmas
pub mod Folded
pub mod Headers
pub mod Fitted
pub mod Named
pub mod SourceLemmas
