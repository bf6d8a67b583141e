-- the words of messages: read from `Words` on
pub mod Words
pub mod Values
-- what the functions inside the crate promise each other
pub mod code
