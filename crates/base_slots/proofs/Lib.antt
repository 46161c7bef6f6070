pub mod Owners
pub mod Adding
pub mod Listings
pub mod Seen
pub mod Made
pub mod Rooms
pub mod Changing
pub mod Undoing
