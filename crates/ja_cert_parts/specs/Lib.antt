-- what the functions promise
pub mod code
