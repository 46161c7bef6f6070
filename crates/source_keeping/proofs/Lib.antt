pub mod Held
pub mod LinesKept
