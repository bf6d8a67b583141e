-- texts that are cut off
pub mod Cuts
