pub mod Jumps
pub mod Marks
pub mod Sequences
pub mod Turns
