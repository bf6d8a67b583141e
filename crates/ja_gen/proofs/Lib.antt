pub mod Lists
pub mod GeneratedLemmas
