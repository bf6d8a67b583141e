pub mod Alternatives
pub mod Examples
pub mod Rulesets
pub mod SiteLists
pub mod ValueWords
