pub mod Numbers
pub mod Partly
pub mod Places
pub mod Words
pub mod Shown
