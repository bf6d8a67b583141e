pub mod OneProgram
pub mod Complete
pub mod Enough
pub mod Judging
pub mod FoundLemmas
pub mod Reporting
pub mod RunOut
pub mod Transcripts
