pub mod BuiltHosts
pub mod HostLemmas
pub mod HostNames
pub mod Places
pub mod WellFormedLemmas
