pub mod Pieces
pub mod Readings
pub mod Counts
pub mod Table
