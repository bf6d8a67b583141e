-- faults, and what is told of a place by those inside it
pub mod FaultLemmas
-- lists and objects
pub mod ListLemmas
-- numbers, words, keys
pub mod NumberLemmas
pub mod UnitLemmas
pub mod WholeLemmas
pub mod WordLemmas
pub mod KeyLemmas
-- the parts of values
pub mod PartLemmas
pub mod ValueLemmas
-- what is listed of a context
pub mod ListedLemmas
