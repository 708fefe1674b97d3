pub mod Lists
pub mod Turns
pub mod Pinned
