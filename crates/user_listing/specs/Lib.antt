pub mod Entries
pub mod Names
pub mod Items
pub mod Listing
pub mod RelativeSource
pub mod Comparison
pub mod Laws
pub mod inside
