pub mod Decoding
pub mod Pieces
