pub mod Matching
pub mod Tables
