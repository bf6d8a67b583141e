-- What clauses of the code cite, and no believed statement.
pub mod Building
pub mod Orders
pub mod Items
pub mod Contexts
pub mod Devices
pub mod Whole
