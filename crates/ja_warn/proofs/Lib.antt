pub mod Held
pub mod Listed
pub mod NodeLemmas
pub mod NodeRanges
pub mod ReachedLemmas
pub mod Rows
