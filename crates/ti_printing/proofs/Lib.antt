pub mod Cuts
pub mod FirstDelays
pub mod Digits
pub mod Layouts
pub mod Numerals
pub mod Paddings
pub mod Plain
