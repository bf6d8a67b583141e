pub mod Names
pub mod TextOrder
pub mod code
