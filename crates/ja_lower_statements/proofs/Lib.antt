pub mod StatementLemmas
