pub mod Names
pub mod Verdicts
pub mod Reading
pub mod Parsing
pub mod Sound
pub mod Laws
pub mod inside
