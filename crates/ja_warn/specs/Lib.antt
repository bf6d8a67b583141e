pub mod Told
pub mod code
