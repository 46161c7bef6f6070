pub mod Formatted
pub mod Printed
pub mod LaidOut
