-- What clauses of the code cite, and no believed statement.
pub mod Back
pub mod Calling
pub mod Given
pub mod Pairs
