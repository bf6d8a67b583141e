mod ArgumentsInStatements
mod ArgumentsLemmas
mod HoistedLemmas
pub mod JumpLemmas
mod Lookups
mod NamesLemmas
mod ReferenceLemmas
mod RuleSamples
pub mod Rulesets
mod SpellingLemmas
pub mod SymbolSamples
