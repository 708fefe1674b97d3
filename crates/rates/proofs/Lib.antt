-- What the proofs of several functions use.
mod Bounds
pub mod Least
pub mod Chosen
pub mod Answers
pub mod Patterns
pub mod Pinned
