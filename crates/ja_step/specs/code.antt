-- What clauses of the code cite, and no believed statement.
pub mod Arguments
pub mod Given
pub mod Lists
pub mod Places
pub mod Steps
