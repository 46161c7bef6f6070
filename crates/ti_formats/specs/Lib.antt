pub mod Limits
pub mod Codes
pub mod Formats
pub mod Reading
pub mod Left
pub mod Parameters
pub mod inside
