pub mod NumberedOperations
pub mod Operations
pub mod Sharing
pub mod DigitLemmas
