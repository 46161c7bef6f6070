pub mod BlockFaults
pub mod FaultLines
pub mod PublishedFaults
pub mod SameFaults
pub mod ShownDetails
pub mod SourceStates
