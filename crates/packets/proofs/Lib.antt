pub mod Decisions
pub mod Cuts
pub mod Stretches
pub mod Packets
pub mod Readings
pub mod Table
pub mod Openings
