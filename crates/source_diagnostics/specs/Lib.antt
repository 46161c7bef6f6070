-- The definitions that the contracts of this crate cite.
pub mod SourceFaults
pub mod Marking
pub mod Diagnostics
pub mod inside
