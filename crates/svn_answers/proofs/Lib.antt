-- Verdicts, and answers one after another.
pub mod Answering
pub mod Hearing
pub mod Listing
pub mod Driving
pub mod Updating
pub mod Refusing
-- Where updates lead.
pub mod Targets
pub mod Loadings
-- A tree of the repository, node by node in path order.
pub mod TreeOrder
-- Lines of a script, done and written.
pub mod Writings
-- the line of a true copy
pub mod CheckedLines
-- the entry that a folder is of the directory above it
pub mod Entries
-- what is told of a folder whose path is gone in the target
pub mod Deleting
-- bytes that are read piece by piece, and compared
pub mod Pieces
