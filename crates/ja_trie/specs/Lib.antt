pub mod Join
pub mod Nodes
pub mod Run
pub mod Test
pub mod code
