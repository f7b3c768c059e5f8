-- Commands on the working copy, where there is one.
pub mod CopyLemmas
-- Drives into an editor that keeps the calls.
pub mod DriveLemmas
-- A run of a script, by the theorem of runs on one thread and that of runs on two.
pub mod RunLemmas
-- Lines that are done one after the other.
pub mod ScriptLemmas
-- The working copy of a script stays true of its repository.
pub mod TruthLemmas
