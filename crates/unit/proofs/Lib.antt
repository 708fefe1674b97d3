pub mod Lengths
pub mod Positions
pub mod Ranged
pub mod Builders
pub mod Inside
