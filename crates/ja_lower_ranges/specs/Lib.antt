pub mod InRange
pub mod Found
pub mod Scope
pub mod Spots
