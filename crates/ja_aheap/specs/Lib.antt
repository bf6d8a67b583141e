pub mod Entries
pub mod Heap
pub mod Joined
pub mod KeysBelow
pub mod Numbers
pub mod Objects
pub mod code
