-- What clauses of the code cite, and no believed statement.
pub mod Composed
pub mod Maps
pub mod Masks
pub mod Mentioned
pub mod Own
