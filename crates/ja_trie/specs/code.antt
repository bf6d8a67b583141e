-- What clauses of the code cite, and no believed statement.
pub mod Join
pub mod Node
pub mod NodeFalls
pub mod Shared
pub mod Test
