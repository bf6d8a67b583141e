-- the programs that are generated
pub mod Generated
