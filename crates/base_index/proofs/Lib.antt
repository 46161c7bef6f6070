pub mod Labelling
pub mod Placing
pub mod Keeping
pub mod Filtering
pub mod Naming
pub mod LawProofs
