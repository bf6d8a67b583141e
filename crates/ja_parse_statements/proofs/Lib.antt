pub mod Cases
pub mod Keywords
pub mod Rulesets
pub mod Variables
