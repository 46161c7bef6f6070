pub mod Holding
pub mod Ordered
pub mod Saying
