pub mod Flowing
pub mod Rows
pub mod Alone
pub mod Profile
pub mod Compared
pub mod Rising
