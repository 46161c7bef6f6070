pub mod LineLaws
pub mod Lists
pub mod Texts
