-- What clauses of the code cite, and no believed statement.
pub mod Growing
pub mod Opened
pub mod Places
