pub mod inside
pub mod Listing
pub mod Names
pub mod Laws
