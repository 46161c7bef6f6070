pub mod Shapes
pub mod Views
