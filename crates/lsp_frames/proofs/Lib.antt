pub mod HeaderLines
pub mod HoldsFrame
pub mod NoFrame
pub mod OneFrame
pub mod ReadParts
pub mod Transferred
pub mod Used
