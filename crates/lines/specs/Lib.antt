pub mod Ascii
pub mod Text
pub mod Writing
