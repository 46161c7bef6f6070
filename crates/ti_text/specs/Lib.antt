pub mod Ascii
pub mod WhiteSpace
pub mod Texts
pub mod Lines
pub mod Lists
pub mod Digits
pub mod Limits
