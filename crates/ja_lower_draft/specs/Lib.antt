pub mod Lines
pub mod Copies
pub mod Laws
pub mod code
