pub mod Rulesets
