-- The definitions that the contracts of this crate cite.
pub mod Lines
pub mod Listing
pub mod Marking
pub mod Ordering
pub mod Placed
pub mod Seeing
pub mod Sums
