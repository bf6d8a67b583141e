pub mod Building
pub mod Entries
pub mod ItemLemmas
pub mod Lists
pub mod Meanings
pub mod Opening
pub mod StateLemmas
