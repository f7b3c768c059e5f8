-- The lemmas of this crate, from lists and paths up to whole repositories.
-- The first repository, and what its readers may rely on in every repository.
pub mod Soundness
-- What holds of the entries of each node of a draft, after a node is added and after a child is put.
pub mod Entering
-- Where paths lead: a path in two parts, and after one node is changed in place, where the node is reached by one path alone.
pub mod Walking
-- What writing the entries of one directory does to the nodes.
pub mod EntryWrites
-- One node made anew: the tree stays as it was but for the number there, and the nodes still are a draft.
pub mod Thawing
-- The way down: what a thawed way still has of the way before.
pub mod Ways
-- Another child put into a fresh directory of a draft: the tree has the child's part there, and nothing else changes.
pub mod ChildPut
-- A draft with the root made anew, with a new node put in, and with an old node put in.
pub mod Making
-- The revisions that a draft is made over, read from the nodes that have the draft's after them.
pub mod OldRevisions
-- The height of a node from those of its children.
pub mod Tallest
-- What leaves the old nodes as they were.
pub mod Keeping
-- The first fault on a way down, and what it means that there is none.
pub mod Faults
-- What is at a path of a draft.
pub mod Standing
-- What follows where a node is known to be at a path: no fault lies above it, and where it is fresh, all above it is fresh already.
pub mod Known
-- A change that is made by one graft.
pub mod Pendings
-- One more change of a list of changes: as a loop over the list comes to it, and after all the others.
pub mod Runs
-- What a commit makes is within the limits, and of its line's kind: a law of the definitions alone.
pub mod Lawful
-- No change is refused because a number or memory ran out.
pub mod UnansweredFaults
-- A draft on which all changes were made is one more revision.
pub mod Commits
-- A transaction: how it begins, what one change more makes of it, and how it becomes one more revision.
pub mod Transactions
-- The laws of commits, from their definition.
pub mod Meanings
-- What no change removes stays, and keeps its line: the law of lines.
pub mod Staying
-- A property of one fresh node of a draft is set: the tree changes there alone.
pub mod PropertySet
