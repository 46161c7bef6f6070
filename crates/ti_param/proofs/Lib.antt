pub mod Alone
pub mod Ending
pub mod Parameters
pub mod Running
pub mod Steps
pub mod Wrapping
