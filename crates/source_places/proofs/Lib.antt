pub mod Columns
pub mod LineStarts
pub mod Measuring
pub mod Onward
pub mod PastLines
pub mod Places
