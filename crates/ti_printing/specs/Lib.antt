pub mod Delays
pub mod inside
pub mod Padding
pub mod Printf
