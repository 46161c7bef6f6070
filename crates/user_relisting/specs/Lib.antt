pub mod Items
pub mod ReadingBack
pub mod Using
