pub mod CopyLemmas
pub mod KeptLemmas
pub mod LeftOutLemmas
pub mod MovingLemmas
pub mod PartLemmas
pub mod Rulesets
pub mod Walks
