pub mod AbstractLaws
pub mod OrderLaws
pub mod RowLaws
