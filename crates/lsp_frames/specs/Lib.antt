pub mod Buffers
pub mod Frames
pub mod FrameLaws
pub mod Inputs
pub mod Reads
pub mod Transfers
pub mod inside
