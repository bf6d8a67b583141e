pub mod Specials
pub mod References
pub mod Operators
pub mod Literals
pub mod Calls
pub mod Expressions
pub mod SpecialForms
pub mod code
