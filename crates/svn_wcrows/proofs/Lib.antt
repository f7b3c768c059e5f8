mod NodeEquality
mod RowLemmas
-- lists of atoms, written and read
pub mod Skels
-- rows of nodes, read as the nodes that they were made of
pub mod NodeRows
-- lists of the work queue, taken apart
mod WorkLists
-- rows of the work queue, one after another
mod WorkRows
