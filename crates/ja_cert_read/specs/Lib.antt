-- which bytes are a certificate, and why others are none
pub mod Said
pub mod Certified
-- what the functions inside the crate promise each other
pub mod code
