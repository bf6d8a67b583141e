pub mod Ways
pub mod Statements
pub mod Functions
pub mod code
