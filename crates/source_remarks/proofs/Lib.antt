pub mod Lines
pub mod AfterUses
pub mod Stepping
pub mod Remarked
pub mod Ordered
