-- What clauses of the code cite, and no believed statement.
pub mod Aged
pub mod Entering
pub mod Told
