-- Faults that are passed on, and steps that are made one after the other.
pub mod Faults
pub mod Stepping
-- A node that is there is changed.
pub mod Altering
-- The nodes up to the next revision, one after another.
pub mod Parts
-- Where a dump is refused.
pub mod Places
-- The front of a dump, read record by record.
pub mod Fronts
-- What is made of a record is never refused as a read fault.
pub mod Causes
-- Empty commits, one more.
pub mod Gaps
-- A revision that ends, and the next one that begins.
pub mod Endings
-- Changes, made and written one after another.
pub mod Writings
-- A dump that is loaded to its end.
pub mod Whole
-- What a listener hears.
pub mod Hearing
-- What is written of a change is loaded as the change.
pub mod Reloading
-- Drafts that are the same but for the numbers of their nodes.
pub mod SameDrafts
-- Bytes are at most one dump.
pub mod OneReading
-- The same revisions, loaded twice.
pub mod SameHistories
-- What is written of commits, read and loaded.
pub mod WrittenDumps
-- The revision that made a node.
pub mod MadeIn
