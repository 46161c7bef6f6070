pub mod WhiteSpace
pub mod Numbers
pub mod Spelling
pub mod inside
