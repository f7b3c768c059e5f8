-- Nodes in path order: which come before which.
pub mod NodeOrder
-- Why a node isn't opened.
pub mod OpenFaults
-- The nodes at a path and below are next to each other: those from the path on, as long as they are within it.
pub mod Ranges
-- What a walk over all nodes leaves of them, where a test of their paths decides.
pub mod Retaining
-- The last call goes over the nodes once.
pub mod Settling
-- Ranges of nodes, and how one is gone through from the last node back.
pub mod NodeRanges
-- What is at a path and below is replaced: room is made for what comes, then what was there goes.
pub mod Replacing
-- Nodes below a path are removed: handfuls of their paths are noted, and go.
pub mod Removals
-- A part is appended to nodes, where none is below its path.
pub mod Appending
-- Nodes compared with others: which of their paths the others don't have.
pub mod Comparing
-- A part is put over nodes that are at all its paths, in one pass over them.
pub mod Overwriting
-- What is below a path, one name at a time.
pub mod Trees
-- One entry of a directory after the other.
pub mod Sweeps
-- A tree of the repository is gathered: its node first, and then the entries in order of their names.
pub mod Gathering
-- The line of a property, from its beginning and the name, which has no byte that is escaped.
pub mod PropLines
