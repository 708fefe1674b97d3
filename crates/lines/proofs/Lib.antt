mod Example
mod Texts
mod Writes
