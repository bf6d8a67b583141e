pub mod Counts
pub mod Height
-- what the functions inside the crate promise each other
pub mod code
