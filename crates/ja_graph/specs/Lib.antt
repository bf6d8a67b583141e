pub mod Node
pub mod Program
pub mod WellFormed
pub mod Renaming
pub mod code
