-- What clauses of the code cite, and no believed statement.
pub mod Ends
pub mod Nests
pub mod Pieces
