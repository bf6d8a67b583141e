-- What clauses of the code cite, and no believed statement.
pub mod Asked
pub mod Chains
pub mod Insertion
pub mod Lists
pub mod Names
pub mod Opening
pub mod Pairs
pub mod Puts
pub mod Walks
