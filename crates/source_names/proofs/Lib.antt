pub mod Edited
pub mod EditsRise
pub mod Following
pub mod Renamed
pub mod RenamesFollow
pub mod Seeking
pub mod UserRenamed
pub mod UsesRead
