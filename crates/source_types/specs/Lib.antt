pub mod Failures
pub mod Numbers
