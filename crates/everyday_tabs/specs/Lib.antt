-- The definitions that the contracts of this crate cite.
pub mod Lists
pub mod Ruler
pub mod Setting
pub mod Stops
pub mod Words
