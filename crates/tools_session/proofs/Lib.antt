pub mod Ending
pub mod Leading
pub mod Printed
pub mod OneOutput
