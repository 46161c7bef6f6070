pub mod Dependents
pub mod inside
