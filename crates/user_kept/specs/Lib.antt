pub mod Laws
pub mod inside
pub mod Places
pub mod Untouched
pub mod Kept
