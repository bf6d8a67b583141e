-- What clauses of the code cite, and no believed statement.
pub mod Reading
pub mod Ranks
pub mod Parts
pub mod Objects
pub mod Own
