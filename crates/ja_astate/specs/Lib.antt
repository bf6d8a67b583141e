pub mod Keys
pub mod Looks
pub mod State
pub mod code
