pub mod Levels
pub mod Operators
pub mod Refusals
pub mod Rulesets
