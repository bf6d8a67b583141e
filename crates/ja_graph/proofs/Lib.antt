pub mod RenamingLemmas
pub mod EachLemmas
pub mod NumberedLemmas
pub mod WellFormedLemmas
pub mod OnceLemmas
pub mod RegisterLemmas
