-- What clauses of the code cite, and no believed statement.
pub mod Answering
pub mod Contexts
pub mod Input
