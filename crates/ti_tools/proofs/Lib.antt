pub mod Filing
pub mod Printing
pub mod Parts
pub mod Reporting
