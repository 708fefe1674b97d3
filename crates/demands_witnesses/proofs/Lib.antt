pub mod Demands12
pub mod Demand3
pub mod Item5
