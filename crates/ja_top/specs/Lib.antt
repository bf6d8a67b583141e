-- what the calls of the crate say: read from `Answers` on
pub mod Answers
pub mod Analyses
pub mod Checks
pub mod Complete
pub mod Findings
pub mod Promises
pub mod Runs
pub mod Statuses
-- what the functions inside the crate promise each other
pub mod code
