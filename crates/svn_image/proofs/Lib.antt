-- rows of tables
pub mod RowLemmas
