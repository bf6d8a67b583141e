pub mod Sweeps
pub mod Turns
