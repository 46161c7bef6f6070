pub mod Entries
pub mod Parameters
pub mod Results
pub mod Replies
pub mod Commands
pub mod Runs
pub mod inside
pub mod Streaming
