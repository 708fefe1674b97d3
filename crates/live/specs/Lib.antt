pub mod Argument
pub mod Turns
