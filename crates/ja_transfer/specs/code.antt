-- What clauses of the code cite, and no believed statement.
pub mod Callees
pub mod Declares
pub mod Deletes
pub mod Members
pub mod Puts
pub mod Receivers
