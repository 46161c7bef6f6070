pub mod Asked
pub mod Rates
