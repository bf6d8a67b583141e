pub mod Given
pub mod code
