pub mod Asked
mod IndexLemmas
mod InsertionLemmas
mod KeyLemmas
pub mod Loops
pub mod MadeLemmas
pub mod Meetings
mod NameLemmas
pub mod OpeningLemmas
pub mod Pairs
pub mod ProfileLemmas
pub mod RegisterLemmas
pub mod Searches
pub mod Showing
pub mod StateLemmas
mod Throws
mod ValueLemmas
pub mod Walking
