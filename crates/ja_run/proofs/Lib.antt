pub mod Answering
pub mod Giving
pub mod Hearing
pub mod Prefixes
pub mod Steps
