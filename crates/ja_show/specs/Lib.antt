-- what is shown of messages about files: read from `Messages` and `Page` on
pub mod Laws
pub mod Lines
pub mod Messages
pub mod Page
pub mod Untagged
pub mod code
