pub mod Completing
pub mod LaidOut
pub mod Naming
pub mod OnceNamed
pub mod Touching
pub mod WordReplaced
