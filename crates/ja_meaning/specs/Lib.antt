pub mod Meaning
pub mod Moments
pub mod OperationLaws
pub mod OperatorLaws
pub mod RenamingLaws
