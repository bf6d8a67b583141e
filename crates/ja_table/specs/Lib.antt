pub mod Order
pub mod Parts
pub mod Profile
pub mod Tables
pub mod code
