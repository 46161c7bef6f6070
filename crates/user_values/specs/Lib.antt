pub mod Expansion
pub mod Tables
pub mod Uses
pub mod Limit
pub mod Walking
pub mod Laws
pub mod inside
