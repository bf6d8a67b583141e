-- What clauses of the code cite, and no believed statement.
pub mod Functions
pub mod Prelude
pub mod Table
