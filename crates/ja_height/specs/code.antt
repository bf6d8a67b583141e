-- What clauses of the code cite, and no believed statement.
pub mod Limits
