pub mod Parts
pub mod Links
pub mod Kept
pub mod Inside
pub mod Jumps
pub mod Followed
pub mod Copied
