pub mod Relisting
pub mod Layouts
pub mod Entries
pub mod ReadingBack
pub mod Runs
