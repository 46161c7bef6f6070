mod Examples
pub mod Orders
pub mod Steps
pub mod Alone
pub mod Rows
pub mod Spaces
pub mod Rooms
pub mod Threads
