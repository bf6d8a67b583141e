-- What clauses of the code cite, and no believed statement.
pub mod Calls
pub mod Expressions
pub mod References
