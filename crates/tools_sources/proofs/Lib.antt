pub mod Ending
pub mod Filing
pub mod Inserting
pub mod Refusing
