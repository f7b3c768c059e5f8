-- What a run on two threads leaves, and what is said of it.
pub mod RunLemmas
-- A folder whose copy is brought to one that is true.
pub mod Bringing
