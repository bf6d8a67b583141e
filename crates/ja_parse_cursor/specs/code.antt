-- What clauses of the code cite, and no believed statement.
pub mod Cursor
pub mod Marks
pub mod Taking
