pub mod Lists
pub mod Rulesets
