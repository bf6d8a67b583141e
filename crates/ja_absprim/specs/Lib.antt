pub mod Primitives
pub mod code
