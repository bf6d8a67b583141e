pub mod Faults
pub mod OperationLaws
pub mod Sound
pub mod Statements
pub mod Throws
