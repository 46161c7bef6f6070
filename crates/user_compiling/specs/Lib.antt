pub mod Rows
pub mod Entries
pub mod Faults
pub mod Findings
pub mod Report
pub mod ReadBack
pub mod inside
pub mod Laws
