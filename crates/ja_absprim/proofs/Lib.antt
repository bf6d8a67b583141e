pub mod Onto
pub mod Turned
