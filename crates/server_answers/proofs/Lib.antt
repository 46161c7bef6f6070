pub mod Capabilities
pub mod Searched
