-- What clauses of the code cite, and no believed statement.
pub mod Checking
pub mod Commands
pub mod Solutions
pub mod Statuses
