pub mod Phases
pub mod Model
pub mod Range
pub mod Clauses
