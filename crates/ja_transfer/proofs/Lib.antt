pub mod CalleeLemmas
pub mod DeclareLemmas
pub mod FunctionAt
mod DeleteLemmas
pub mod Filters
pub mod GivenLemmas
pub mod MemberLemmas
mod PutLemmas
mod ReceiverLemmas
pub mod ShapeLemmas
mod SpotLemmas
mod TargetLemmas
mod ValueLemmas
pub mod WeakLemmas
