-- What the proofs of several functions use.
mod Texts
pub mod Places
pub mod Says
pub mod Examples
pub mod Pinned
