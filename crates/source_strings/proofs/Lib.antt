pub mod Appends
pub mod Caused
pub mod Expanded
pub mod Printing
pub mod Reading
pub mod Whole
