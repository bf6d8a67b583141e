pub mod Escapes
pub mod Fronts
pub mod Kept
pub mod Parts
pub mod Places
pub mod Source
pub mod Tags
