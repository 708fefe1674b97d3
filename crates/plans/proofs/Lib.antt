-- Plans that are computed.
pub mod Vectors
