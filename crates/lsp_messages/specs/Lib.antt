pub mod Bodies
pub mod Laws
pub mod Messages
pub mod Pieces
pub mod Views
