-- What clauses of the code cite, and no believed statement.
pub mod Ends
pub mod Entries
pub mod Exits
pub mod Filling
pub mod Settled
pub mod Stepping
