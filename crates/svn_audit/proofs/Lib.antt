-- The first reason of a node is there exactly where the test of truth fails.
pub mod Reasons
-- The reason of a node of a copy is that by what the history has in its place.
pub mod PlaceReasons
-- All untrue nodes of a copy, found one after the other.
pub mod Audits
-- A node of a sparse copy has no reason exactly where it is true but for what may be lacking.
pub mod SparseTruths
-- What a copy of the nodes below a path has.
pub mod Belows
-- What one more call makes of the lines of an update, and of what is held of its tokens.
pub mod Noting
-- What the lines of an update say of its calls.
pub mod LineLaws
-- The lines of some updates, and how some are printed, computed by the definitions.
pub mod LineRows
