pub mod Outcomes
pub mod code
