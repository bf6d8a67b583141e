pub mod Run
pub mod Asked
pub mod Ends
pub mod Transcript
pub mod code
