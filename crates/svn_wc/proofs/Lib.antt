-- Directories whose repository path is their own path, and what is below a directory.
pub mod OwnPaths
-- The nodes on the way down to a path.
pub mod Ancestors
-- The entries of a directory, gone through together with the nodes below it.
pub mod Merging
-- The next node after those below a path: it is below too exactly where it has more names.
pub mod Deeper
-- A copy is compared with the repository, the nodes below a path one after the other.
pub mod Truly
-- A path is forgotten: its node is no longer present, and what is below it goes.
pub mod Forgetting
-- Trees of the repository, and what a copy makes of them.
pub mod Placing
-- Lists of nodes in any order, each path once: what is gathered from one is what it has.
pub mod EachOnce
-- An edit completes each directory that it opens.
pub mod Completing
-- A call of an applier keeps the copy in its shape, whatever the call and its result.
pub mod ShapeKept
-- A list sorted by its paths: what is there twice, and what a search finds.
pub mod SortedNodes
-- Copies without a switched path stay so.
pub mod Unswitched
-- What is known of a copy after a call of an applier: that no path is switched, and that it is level.
pub mod UnswitchedCalls
-- The same of whole lists of calls: an update leaves no path switched.
pub mod UnswitchedRuns
-- Nodes that are what the repository has at one revision are level; and level nodes have the root's revision.
pub mod Level
-- What a copy reports if no path is switched and all nodes are of one revision: the root alone.
pub mod LevelCrawl
-- What the report of a copy says of all its nodes.
pub mod Learning
