pub mod Solving
pub mod code
