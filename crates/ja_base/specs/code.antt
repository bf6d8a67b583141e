-- What clauses of the code cite, and no believed statement.
pub mod Counts
pub mod StdStreams
pub mod Streams
