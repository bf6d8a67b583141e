-- What clauses of the code cite, and no believed statement.
pub mod Kept
pub mod Lines
pub mod Listed
pub mod Parts
pub mod Registers
pub mod Sources
