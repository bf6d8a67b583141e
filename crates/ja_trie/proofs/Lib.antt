pub mod JoinLaws
pub mod Joins
pub mod Levels
pub mod Runs
pub mod Sharing
pub mod Tested
