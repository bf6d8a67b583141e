pub mod Lookups
pub mod Symbols
pub mod Spelling
pub mod References
pub mod Hoisted
pub mod Arguments
pub mod code
