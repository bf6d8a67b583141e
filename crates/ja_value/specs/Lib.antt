pub mod Labels
pub mod Value
