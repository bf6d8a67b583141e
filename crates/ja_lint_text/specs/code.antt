-- What clauses of the code cite, and no believed statement.
pub mod Sites
pub mod Lists
