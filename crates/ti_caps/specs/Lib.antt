pub mod Names
pub mod Tables
pub mod NameOrder
pub mod inside
