-- the data that a value stands for
pub mod View
