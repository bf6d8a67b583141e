pub mod Lowering
pub mod Setting
pub mod Limits
pub mod code
