pub mod Steps
pub mod Areas
pub mod PacketLaws
pub mod Given
pub mod Runs
