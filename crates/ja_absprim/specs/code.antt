-- What clauses of the code cite, and no believed statement.
pub mod Arithmetic
pub mod Conversions
pub mod Kinds
