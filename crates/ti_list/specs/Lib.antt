pub mod Items
pub mod Listing
pub mod RelativeSource
pub mod Comparison
pub mod inside
