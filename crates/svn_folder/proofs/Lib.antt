-- what a folder shows after a step
pub mod Showing
-- what a crash leaves of names that are on the disk
pub mod Firm
-- steps that are apart from a path
pub mod Apart
-- steps one after the other
pub mod Runs
-- marks at what isn't on the disk yet
mod Marked
mod Named
-- the same, as a program keeps them
mod Unsyncing
-- marks, when a step is taken or refused
mod Taking
-- once all is on the disk
pub mod Settled
-- what is in a directory: only names that a step has made
mod Made
-- the names in a directory
mod Listed
-- refusals that change nothing
mod Refusing
-- paths that were made, if they were
mod Joining
-- back through the steps
mod Back
-- several steps, as far as they are taken
mod Several
-- steps that sync show nothing new
pub mod Syncs
-- bytes that were given, piece by piece
mod Giving
