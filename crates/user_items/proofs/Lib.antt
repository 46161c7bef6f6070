pub mod Readings
pub mod Warnings
pub mod Sound
pub mod NameBytes
pub mod UsesAlone
