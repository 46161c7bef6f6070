pub mod Shapes
pub mod AfterUses
pub mod Using
