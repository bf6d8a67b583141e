pub mod Table
pub mod Described
pub mod Reading
pub mod Functions
pub mod Prelude
pub mod Texts
pub mod Uses
pub mod code
