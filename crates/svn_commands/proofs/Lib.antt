-- segments, put together from young to old
pub mod Backwards
-- locations that are written one after another
pub mod Located
-- the revisions of a log, found one after another, and the paths that they are about
pub mod Logged
-- lists of which what passes a test is written, or counted, one element after another
pub mod Others
