pub mod Visits
pub mod code
