pub mod Clocks
pub mod Rates
pub mod Plans
pub mod Nearest
pub mod Answers
pub mod Search
pub mod Floats
