-- What clauses of the code cite, and no believed statement.
pub mod Arguments
pub mod Hoisted
pub mod Jumps
pub mod Lookups
pub mod Mentions
pub mod Rules
