-- what options declare, why they declare nothing, and how that is told
pub mod Devices
pub mod Texts
-- what the functions inside the crate promise each other
pub mod code
