pub mod Floats
pub mod Places
pub mod Serves
pub mod Shown
pub mod Publishing
