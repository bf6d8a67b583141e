-- what the calls of the crate say
pub mod Words
-- what the functions inside the crate promise each other
pub mod code
