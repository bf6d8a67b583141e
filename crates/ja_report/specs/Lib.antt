pub mod Texts
pub mod Lines
pub mod Report
pub mod Refusals
pub mod code
