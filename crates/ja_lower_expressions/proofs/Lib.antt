pub mod FormLemmas
pub mod Rulesets
pub mod SpecialLemmas
