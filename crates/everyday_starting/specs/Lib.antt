-- The definitions that the contracts of this crate cite.
pub mod Fitness
pub mod Modes
pub mod Padding
pub mod Starting
pub mod inside
