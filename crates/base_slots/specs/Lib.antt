pub mod Listing
pub mod Slots
pub mod Positions
pub mod Settled
pub mod inside
pub mod Changes
