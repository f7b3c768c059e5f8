-- Calls in a row: what one list leads to and the next goes on from.
pub mod RunLemmas
-- The calls of a visit: those of the path itself, of what is below it, and its close.
pub mod Visits
-- What the calls of a visit lead to, put together from its parts.
pub mod VisitRuns
-- What a place has, the root's and a child's by its parent's.
pub mod ChildPlaces
-- How a file ends: with a text and its close, or the close alone.
pub mod FileEnds
-- The texts that wait: at a path that is entered or not, name by name, and at a whole run.
pub mod Waits
-- What the calls of a whole drive lead to: its first call, the visit of the root, the texts that waited, and the last call.
pub mod WholeRuns
-- What a check finds: the nodes of what is seen, and the first fault, entry by entry.
pub mod Checks
-- Where a walk passes a child over: nothing is called there.
pub mod Idle
-- A part of a report, cut by the names at a depth.
pub mod ByName
-- Parts of a report: what is reported below a path, its own entry, and the parts of its names.
pub mod Parts
-- The names below a path, taken from three lists in order: each once, with what is under it.
pub mod NamesLeft
-- A walk over the names at which something is done: it does what one over all names does.
pub mod SkippedNames
