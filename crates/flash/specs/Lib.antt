pub mod Blocks
pub mod Image
pub mod Effects
pub mod Clauses
