pub mod Rulesets
pub mod TextOrderLemmas
