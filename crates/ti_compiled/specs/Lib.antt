pub mod Image
pub mod inside
pub mod Changes
