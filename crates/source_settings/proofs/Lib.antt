pub mod Directories
pub mod Changes
pub mod Nearest
pub mod Lines
pub mod Publishing
