-- what is told of files, and how: read from `Lint` on
pub mod Lint
pub mod Refusals
pub mod Replies
pub mod Reading
pub mod Telling
pub mod Ending
pub mod Calls
-- what the functions inside the crate promise each other
pub mod code
