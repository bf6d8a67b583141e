-- what a certificate is, and the first place at which JSON is none
pub mod Certificate
pub mod Wrong
-- what the functions inside the crate promise each other
pub mod code
