pub mod Printing
pub mod Files
pub mod Breaks
pub mod Termcaps
