-- what is written as a certificate is read back, and accepted; so is each one of a closed table
pub mod Accepted
pub mod Back
pub mod Complete
