pub mod AscendingLemmas
pub mod FlagLemmas
pub mod LabelLemmas
pub mod OrderLemmas
pub mod ProfileLemmas
pub mod RenamingLemmas
pub mod TextLemmas
pub mod ValueLemmas
