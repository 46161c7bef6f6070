-- The definitions that the contracts of this crate cite.
pub mod Exchanges
pub mod Documents
pub mod Recutting
pub use Rattle.source_diagnostics.specs.Diagnostics
