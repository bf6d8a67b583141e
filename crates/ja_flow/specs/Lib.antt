pub mod Flow
pub mod code
