-- properties
pub mod PropertyLemmas
-- columns
pub mod ColumnLemmas
-- tests of pages and records
pub mod PageTests
pub mod RecordTests
-- reading, chains of overflow pages, trees of tables
pub mod ReadingLemmas
pub mod ChainLemmas
pub mod TreeLemmas
-- rows of PRISTINE
pub mod PristineLemmas
-- rows of NODES, and what they leave out
pub mod NodeLemmas
pub mod LeftOutLemmas
-- Atoms by the number of their bytes.
pub mod SizedAtoms
